mod DigitLemmas
pub mod ValueLaws
mod FieldLaws
mod FieldLemmas
mod LineLaws
mod LineSteps
mod ListLaws
mod ListSteps
mod TailLaws
pub mod WriteSteps
