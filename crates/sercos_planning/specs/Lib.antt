pub mod Clauses
pub mod LeastTimes
pub mod Margins
pub mod Planning
