pub mod Agenda
pub mod Channel
pub mod Clauses
pub mod Records
pub mod Ring
pub mod Seats
