mod Bench
mod Runs
mod WorkedTogether
mod Words
pub mod Places
pub mod Rings
pub mod Wishes
pub mod Sent
pub mod Told
pub mod Openings
pub mod Keeping
pub mod Laws
pub mod Configured
pub mod Closing
pub mod Planned
pub mod Followed
pub mod InOrder
