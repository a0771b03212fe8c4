pub mod ChainOf
pub mod Chains
pub mod Clauses
pub mod Least
pub mod LeastTimes
pub mod Views
