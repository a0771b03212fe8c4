pub mod Clauses
pub mod Handshake
pub mod Pace
