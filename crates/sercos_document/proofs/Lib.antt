pub mod Items
pub mod Least
pub mod RefusalLines
