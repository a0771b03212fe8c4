pub mod Hearings
pub mod Worked
