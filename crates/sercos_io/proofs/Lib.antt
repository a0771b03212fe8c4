pub mod Copies
pub mod Concat
