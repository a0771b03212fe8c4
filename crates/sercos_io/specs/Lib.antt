pub mod Adapters
pub mod Clauses
pub mod Memory
pub mod ReadAll
pub mod Status
