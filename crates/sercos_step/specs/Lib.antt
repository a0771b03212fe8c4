pub mod Clauses
pub mod Counts
pub mod Jobs
pub mod Kept
pub mod Steps
pub mod Words
