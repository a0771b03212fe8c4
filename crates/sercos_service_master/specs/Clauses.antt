-- The words that the contracts of this crate use, each from where it is defined.
pub use Rattle.sercos_service_master.specs.Begun.{Begun, answer_in, answers_it, master_says, open_in, outcome_with, said_by, step_or_none, with_answer}
pub use Rattle.sercos_service_master.specs.Calls.{Begin, Call, EndCycle, Hear, Send, begun_by, cycles_open, outcome_at}
pub use Rattle.sercos_service_master.specs.Kept.{IsAtWork, MasterStandsFor}
pub use Rattle.sercos_step.specs.Steps.{IsRequest}
pub use Rattle.sercos_telegram.specs.declared.words.Status.{Status}
