pub mod Clauses
pub mod Jobs
pub mod Texts
pub mod Tracking
