pub mod Outcomes
pub mod Replayed
pub mod JournalLemmas
pub mod RunLemmas
pub mod OwnRuns
pub mod TrackingLemmas
pub mod SavingLemmas
pub mod EndsWellLemmas
pub mod SavedRuns
pub mod SavedTold
mod WorkedSummary
mod WorkedAnswered
