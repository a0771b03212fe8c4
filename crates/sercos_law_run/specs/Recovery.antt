-- What becomes of a ring after faults: after a fall, and in cycles in which nothing is disturbed, regardless of losses before
-- them.
pub mod Stretches
pub mod UpOrDown
pub mod FallsInTime
pub mod FallsSoon
pub mod ComesBack
pub mod AfterFalls
pub mod Recovers
pub mod Predicts
