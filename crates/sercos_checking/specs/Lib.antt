pub mod Checking
pub mod Clauses
pub mod Taken
