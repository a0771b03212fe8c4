-- Both ends of a service channel: each move, each transfer, and a whole run of one drive and the master.
pub mod InStep
pub mod Moves
pub mod Transfers
pub mod CommandTransfers
pub mod Parts
pub mod ReadTransfers
pub mod Views
pub mod Epochs
pub mod Runs
pub mod Choices
pub mod WholeRun
pub mod RunLaws
pub mod Exact
pub mod Values
