-- The words that the contracts of this crate use, each from where it is defined.
pub use Rattle.sercos_telegram.specs.Faults.{at_fault, head_fault, joint_fault, mst_fault, single_fault}
pub use Rattle.sercos_telegram.specs.Spells.{SpellsAt, SpellsRecord, all_drives, at_content, fields, mst_content, record_bytes, single_content, word_at, word_bytes}
pub use Rattle.sercos_telegram.specs.Words.{control_of, control_word, status_of, status_word}
pub use Rattle.sercos_telegram.specs.declared.words.Control.{Control}
pub use Rattle.std.specs.Result.{result_err}
