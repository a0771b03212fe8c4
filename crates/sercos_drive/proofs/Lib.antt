pub mod DriveLemmas
mod FeedbackLemmas
pub mod RecordLemmas
pub mod Worked
