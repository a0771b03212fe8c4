pub mod Clauses
pub mod CommandLine
pub mod Form
