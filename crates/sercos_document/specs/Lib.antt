pub mod Answers
pub mod Clauses
pub mod Lines
pub mod Lists
pub mod Located
pub mod Paths
pub mod Tables
