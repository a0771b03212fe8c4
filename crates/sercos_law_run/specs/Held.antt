-- What each drive of a ring holds through a run.
pub mod Held
pub mod Stored
pub mod Opened
