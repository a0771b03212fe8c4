pub mod BlockLemmas
pub mod DriveLemmas
pub mod OrderLemmas
pub mod TextLemmas
pub mod GeneratedLemmas
mod Worked
mod WorkedGenerated
