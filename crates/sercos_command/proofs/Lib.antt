mod SetLemmas
pub mod History
pub mod CallLemmas
mod Statuses
mod CheckLemmas
mod Worked
