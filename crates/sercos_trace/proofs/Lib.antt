mod KindLemmas
mod Worked
mod NumberLemmas
mod ReadBack
pub mod FeedLemmas
pub mod MarkLemmas
pub mod MarkedLemmas
pub mod WriteLemmas
