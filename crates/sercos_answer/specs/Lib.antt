pub mod Answer
pub mod Clauses
pub mod Lines
