pub mod Clauses
pub mod Margins
