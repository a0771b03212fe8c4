pub mod DriveSame
pub mod MasterSame
pub mod Codecs
pub mod Members
pub mod Coupled
pub mod Received
pub mod ViewRuns
