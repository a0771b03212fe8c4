pub mod Clauses
pub mod Giving
pub mod Outcome
pub mod TopCall
