pub mod Clauses
pub mod Faults
pub mod Kinds
pub mod Spells
pub mod Words
