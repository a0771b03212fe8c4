pub mod Spellings
pub mod Worked
