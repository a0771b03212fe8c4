pub mod Slots
pub mod Start
pub mod Agenda
pub mod Journal
pub mod Views
pub mod Typed
pub mod Held
pub mod Settings
pub mod Headline
pub mod Bounds
pub mod Undisturbed
pub mod Recovery
pub mod Totals
pub mod Stations
pub mod Tolerance
mod Words
pub mod Cited
pub mod Theorems
