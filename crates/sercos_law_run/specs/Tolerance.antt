-- What a ring bears while faults go on: epochs in which the disturbed cycles are sparse.
pub mod Sparse
pub mod Bears
pub mod Losses
pub mod Early
pub mod TwoLasts
pub mod Rises
pub mod Reports
pub mod Ends
pub mod Many
pub mod Returns
