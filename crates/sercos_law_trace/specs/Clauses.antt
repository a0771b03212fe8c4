-- The words that the contracts of this crate use, each from where it is defined.
pub use Rattle.sercos_law_trace.specs.Clean.Ruled.{RunsFitLines, RunsKeepRules}
pub use Rattle.sercos_law_trace.specs.Clean.Traces.{RunsAreClean, RunsFitOthers, RunsFitReports, TracesAreClean}
pub use Rattle.sercos_law_trace.specs.Told.Reads.{ReadsAreExact}
pub use Rattle.sercos_law_trace.specs.Told.Writes.{WritesAreKept}
