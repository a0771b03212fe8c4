-- What is typed at opening stays so through a run: words are words, and contents are whole.
pub mod Typed
pub mod Keeps
pub mod Spelled
pub mod Clear
