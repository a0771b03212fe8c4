pub mod Bounds
pub mod CountLemmas
pub mod TotalsLemmas
