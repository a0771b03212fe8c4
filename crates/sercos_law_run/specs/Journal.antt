-- The run of a ring: what is sent in each cycle, what of it arrives at each station, and what each station makes of it.
pub mod Arrivals
pub mod Records
pub mod Runs
pub mod Harmless
