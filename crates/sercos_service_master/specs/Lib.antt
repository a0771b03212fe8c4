pub mod Begun
pub mod Calls
pub mod Clauses
pub mod Kept
