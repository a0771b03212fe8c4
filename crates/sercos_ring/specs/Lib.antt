pub mod Clauses
pub mod Frames
pub mod Kept
pub mod Parts
pub mod Sendings
pub mod Stations
