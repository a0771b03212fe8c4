-- The words that the contracts of this crate use, each from where it is defined.
pub use Rattle.sercos_block.specs.Blocks.{element_of, number_end, width_of}
pub use Rattle.sercos_block.specs.Stores.{find_block, put_fault}
pub use Rattle.sercos_block.specs.declared.block.Block.{Block}
pub use Rattle.sercos_command.specs.Calls.{CommandHistory, Other, Wrote, with_call, with_check_list}
pub use Rattle.sercos_command.specs.Kept.{CommandsStandFor, are_commands_of}
pub use Rattle.sercos_command.specs.Settings.{is_command}
pub use Rattle.sercos_idn.specs.Codes.{is_list}
pub use Rattle.sercos_idn.specs.Commands.{to_cancel, to_set}
pub use Rattle.sercos_idn.specs.Elements.{data_element}
pub use Rattle.sercos_service_drive.specs.Kept.{ChannelStandsFor, GoesWith, IsAnswered, SessionStandsFor, place_in, run_of, selected}
pub use Rattle.sercos_service_drive.specs.Log.{Entry, Processed, open_idn, opens, processed_record, processed_step}
pub use Rattle.sercos_service_drive.specs.Partial.{IsEffect, IsReplied, IsStarted, IsWord, length_cause, place_cause}
pub use Rattle.sercos_service_drive.specs.Replies.{data_in, element_words, good, list_words, log_of, missing, words_at, words_by}
pub use Rattle.sercos_service_drive.specs.Says.{channel_says, shown_by}
pub use Rattle.sercos_service_drive.specs.Writes.{AreAlike, AreThose, Write, added_on, adds, blocks_with, commands_with, with_added, writes_of}
pub use Rattle.sercos_step.specs.Words.{bytes_in, words_of}
pub use Rattle.std.specs.Int.{from_le_bytes, to_le_bytes, w16}
pub use Rattle.std.specs.Result.{result_err}
