mod WorkedAnswers
mod WorkedRuns
pub mod AgreeLemmas
pub mod AskingLemmas
pub mod CleanLemmas
pub mod CycleLemmas
pub mod DividedLemmas
pub mod DriveLemmas
pub mod GivenLemmas
pub mod LineLemmas
pub mod MasterLemmas
pub mod OptionLemmas
pub mod SharedLemmas
pub mod SilentLemmas
pub mod StationLemmas
pub mod TracedLemmas
pub mod UndisturbedLemmas
pub mod Worked
