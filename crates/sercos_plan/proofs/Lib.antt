pub mod LeastLemmas
pub mod PlanLemmas
pub mod StartLemmas
pub mod T2Lemmas
pub mod AnswerLemmas
pub mod SoundLemmas
pub mod TestLemmas
pub mod TrailLemmas
pub mod ListedLemmas
pub mod ReachLemmas
pub mod ChainLemmas
mod Worked
