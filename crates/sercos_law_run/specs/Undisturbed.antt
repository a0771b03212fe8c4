-- Cycles of a ring in which nothing is disturbed: every telegram that is sent arrives as it was sent, and no station restarts.
pub mod Undisturbed
pub mod CommandsFollow
pub mod EpochStarts
pub mod ViewsSince
pub mod StartUps
pub mod Sections
pub mod Jobs
pub mod Ends
pub mod Fit
pub mod StopsInTwo
pub mod StopsLater
pub mod Reports
pub mod WholeRuns
