pub mod Clauses
pub mod Clean
pub mod Told
