pub mod Bits
pub mod CheckSequence
pub mod Frames
pub mod Streams
