-- The trace of a run keeps the rules of a capture.
pub mod Ruled
pub mod Fields
pub mod Traces
