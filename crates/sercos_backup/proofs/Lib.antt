pub mod TrackLemmas
pub mod ListLemmas
