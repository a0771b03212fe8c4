pub mod WordsRead
pub mod FormLemmas
