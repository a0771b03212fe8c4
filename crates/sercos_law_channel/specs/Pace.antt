-- How long a service channel takes, on runs of one drive and the master: in epochs in which nothing is lost, after any losses, and for each
-- request.
pub mod Times
pub mod Stretches
pub mod Passages
pub mod Costs
pub mod Carried
pub mod Jobs
pub mod Ages
pub mod StartCosts
pub mod ChannelCalls
pub mod Passes
