pub mod EasierLemmas
pub mod MarginLemmas
pub mod FoundLemmas
mod Worked
