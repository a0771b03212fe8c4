pub mod CheckingLemmas
mod WorkedChecks
