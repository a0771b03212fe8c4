pub mod Clauses
pub mod Kept
pub mod Log
pub mod Partial
pub mod Replies
pub mod Says
pub mod Writes
