-- What every run of a ring keeps as long as no damage passes the check sequence unseen.
pub mod Cycles
pub mod Transfers
pub mod Records
pub mod Headline
pub mod Stops
pub mod Once
