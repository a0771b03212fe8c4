pub mod Clauses
pub mod Fields
pub mod Given
pub mod Lists
pub mod Tails
pub mod Templates
