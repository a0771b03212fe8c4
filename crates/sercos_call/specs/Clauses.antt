-- The words that the contracts of this crate use, each from where it is defined.
pub use Rattle.sercos_call.specs.Giving.{GivesOrRefuses, GivesReply}
pub use Rattle.sercos_call.specs.Outcome.{Writes, changed}
pub use Rattle.sercos_call.specs.TopCall.{fault_status}
pub use Rattle.sercos_document.specs.Lines.{line_of}
