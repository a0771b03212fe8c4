pub mod SoundLemmas
pub mod TypeLemmas
pub mod PutLemmas
pub mod PartLemmas
pub mod RegionLemmas
pub mod PackLemmas
pub mod OpenLemmas
pub mod WishLemmas
pub mod RingLemmas
mod Worked
mod FindLemmas
