pub mod Outcomes
pub mod ReplyLemmas
