-- What the master does on the channel of one drive, after any calls: its agenda, its stops and its reports.
pub mod Channels
pub mod Tasks
pub mod Turns
pub mod Reads
pub mod Writes
pub mod Stops
pub mod Reported
pub mod Events
