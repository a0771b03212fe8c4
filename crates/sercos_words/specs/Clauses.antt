-- The words that the contracts of this crate use, each from where it is defined.
pub use Rattle.clap.specs.Words.{app_of}
pub use Rattle.sercos_words.specs.CommandLine.{command_line}
pub use Rattle.sercos_words.specs.Form.{HasNumber, form_of, gen_form, number_named, plain_form, replay_form, word_form}
