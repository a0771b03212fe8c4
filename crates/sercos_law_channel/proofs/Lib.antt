pub mod Handshake
pub mod Pace
mod Words
pub mod Options
pub mod Cited
pub mod Theorems
