-- The words that the contracts of this crate use, each from where it is defined.
pub use Rattle.sercos_idn.specs.declared.idn.Idn.{Idn}
pub use Rattle.sercos_model.specs.Bits.{AreBytes}
pub use Rattle.sercos_step.specs.Counts.{AttributeTakes, CommandTakes, CommandTakesSteps, CountsAnswers, HasAtMost, ListTakes, ListWriteTakes, RequestTakes, ValueTakes, ValueWriteTakes}
pub use Rattle.sercos_step.specs.Kept.{IsAfterAnswer, IsAfterCommand, IsAfterWord, IsAt, IsAtCommand, IsAtRead, IsAtWrite, TransferStandsFor, count_with, ends_write, is_last_read, kept_with, most_kept, result_kept, with_attribute}
pub use Rattle.sercos_step.specs.Steps.{AreAnswers, IsRequest, a_step, is_whole, next_step, outcome_of, reading, steps_before, steps_of, writing}
pub use Rattle.sercos_step.specs.Words.{as_value, bytes_read, length_said, shape_by, shape_of, words_in, words_of, words_told}
pub use Rattle.sercos_step.specs.declared.request.Request.{Request}
pub use Rattle.sercos_step.specs.declared.shape.Shape.{Shape}
pub use Rattle.sercos_step.specs.declared.step.Answer.{Answer}
