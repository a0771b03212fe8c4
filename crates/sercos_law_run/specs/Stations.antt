pub mod Fit
pub mod Phases
pub mod Cycles
pub mod Lists
pub mod Senders
pub mod Falls
