pub mod ClosingLemmas
pub mod ContentLemmas
pub mod EndLemmas
pub mod FedLemmas
pub mod FramingLemmas
pub mod GivenLemmas
pub mod GroupLemmas
pub mod KeptLemmas
pub mod ReasonLemmas
pub mod RunLemmas
pub mod ScanLemmas
pub mod SixthLemmas
pub mod SoughtLemmas
pub mod StuffLemmas
pub mod TableLemmas
mod Worked
