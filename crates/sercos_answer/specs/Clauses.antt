-- The words that the contracts of this crate use, each from where it is defined.
pub use Rattle.sercos_answer.specs.Answer.{two_numbers}
pub use Rattle.std.specs.List.{after_first, before_first, position_or_len}
