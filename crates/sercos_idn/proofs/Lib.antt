pub mod IdnLemmas
pub mod PlaceLemmas
pub mod PrintLemmas
pub mod AttributeLemmas
pub mod Worked
