-- The totals of a run, counted cycle by cycle, and what is small in a cycle.
pub mod Totals
pub mod Counting
