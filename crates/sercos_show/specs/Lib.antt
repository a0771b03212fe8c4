pub mod Clauses
pub mod Digits
pub mod Line
pub mod Places
pub mod Show
pub mod SpelledLine
