pub mod Attributes
pub mod Clauses
pub mod Codes
pub mod Commands
pub mod Elements
pub mod Idns
pub mod Places
