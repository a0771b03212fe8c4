-- What is reported of the requests of a run is exact.
pub mod Told
pub mod Reads
pub mod Writes
