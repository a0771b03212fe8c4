-- The settings of a drive's procedure commands through a run, and that its check for phase 3 finds nothing.
pub mod SetByWrites
pub mod WellSet
pub mod Checks
