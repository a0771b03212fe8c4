pub mod Told
pub mod Clean
mod Words
pub mod Theorems
