pub mod OrderLemmas
pub mod BreakLemmas
pub mod NamedLemmas
pub mod Worked
pub mod TestLemmas
