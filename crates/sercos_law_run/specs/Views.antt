-- The run of a ring as each of its drives sees it.
pub mod RingViews
pub mod Spelled
