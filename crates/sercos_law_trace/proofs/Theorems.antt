-- What the crates above cite of the laws on the trace of a run.
pub use Rattle.sercos_law_trace.proofs.Told.ToldLemmas.{told_more}
pub use Rattle.sercos_law_trace.proofs.Told.AnsweredLemmas.{IsToldWhole, told_whole}
pub use Rattle.sercos_law_trace.proofs.Clean.WholeClean.{few_cycles, whole_is_clean}
