pub mod BitLemmas
pub mod CheckVectors
pub mod FaultLemmas
pub mod FrameLemmas
pub mod KnownBytes
pub mod OptionLemmas
pub mod StreamLemmas
