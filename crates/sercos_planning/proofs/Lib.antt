pub mod LeastTimesLemmas
pub mod MarginLemmas
mod Worked
