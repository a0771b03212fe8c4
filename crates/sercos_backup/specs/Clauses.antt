-- The words that the contracts of this crate use, each from where it is defined.
pub use Rattle.sercos_backup.specs.Jobs.{IsFault, data_jobs, list_jobs, numbers_in, place_of_other, reads_data, writes_data}
pub use Rattle.sercos_backup.specs.Texts.{failed_answer, failed_line, failed_lines, failed_text, many_answer, other_answer, refused_text, restored_by, restored_text, saved_answer, saved_line, saved_lines, saved_text}
pub use Rattle.sercos_backup.specs.Tracking.{are_well, bytes_told, idn_in, is_well, lists_told, noted, tracked, with_outcome}
pub use Rattle.sercos_block.specs.Rings.{is_ring}
pub use Rattle.sercos_model.specs.Streams.{HasCause}
pub use Rattle.sercos_step.specs.Steps.{AreTypedJobs, IsRequest, IsTypedRequest}
pub use Rattle.sercos_step.specs.declared.request.Job.{Job}
pub use Rattle.sercos_step.specs.declared.request.Outcome.{Outcome}
pub use Rattle.sercos_text.specs.Templates.{line_text}
pub use Rattle.sercos_text.specs.Templates.Value.{ident, number}
pub use Rattle.std.specs.Io.KnownBytes.{Appends}
pub use Rattle.std.specs.List.{All}
pub use Rattle.std.specs.Option.{option_copied, option_or}
