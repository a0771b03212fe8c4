pub mod ClearLemmas
pub mod StationLemmas
pub mod RunLemmas
pub mod HarmlessLemmas
pub mod Worked
