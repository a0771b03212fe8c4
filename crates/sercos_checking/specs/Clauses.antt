-- The words that the contracts of this crate use, each from where it is defined.
pub use Rattle.sercos_check.specs.Shape.{HasShape}
pub use Rattle.sercos_check.specs.Tests.{can_follow}
pub use Rattle.sercos_check.specs.Verdicts.{CheckerStandsFor, plain}
pub use Rattle.sercos_checking.specs.Checking.{clean_text, column_of, name_with, read_as, verdict_of, verdict_status, verdict_text, violation_text}
pub use Rattle.sercos_checking.specs.Taken.{HasTaken, verdict_after, verdict_on}
pub use Rattle.sercos_trace.specs.declared.reading.Line.{Line}
pub use Rattle.sercos_trace.specs.declared.reading.Line.TheVariants.{Other}
