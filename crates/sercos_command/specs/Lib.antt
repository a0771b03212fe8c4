pub mod Calls
pub mod Checks
pub mod Clauses
pub mod Kept
pub mod Laws
pub mod Settings
