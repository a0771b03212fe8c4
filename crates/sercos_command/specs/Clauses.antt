-- The words that the contracts of this crate use, each from where it is defined.
pub use Rattle.sercos_block.specs.Rings.{telegram_len}
pub use Rattle.sercos_block.specs.Stores.{IsStore, with_data}
pub use Rattle.sercos_block.specs.declared.block.Block.{Block}
pub use Rattle.sercos_command.specs.Calls.{CommandHistory, Other, Reset, Wrote, change_in, is_passed, status_in, with_call, with_check_list}
pub use Rattle.sercos_command.specs.Checks.{breaks_1, breaks_10, breaks_15, breaks_2, breaks_6, breaks_7, breaks_8, breaks_89, breaks_9, breaks_list, carried_len, cyclic_len, idns_at, idns_in, is_cyclic, list_bytes, listed_if, number_at, unfit_for_phase_3, unfit_for_phase_4}
pub use Rattle.sercos_command.specs.Kept.{AreInOrder, CommandsStandFor, CommandsView, are_commands_of, change_kept, find_set, first_passed_in, from_cancel, from_setting, is_from, newest_cycle, status_kept, with_check_list_kept, with_write, without, without_checks, without_settings}
pub use Rattle.sercos_command.specs.Laws.{SetByFirst, SetByNewest, StatusSays}
pub use Rattle.sercos_command.specs.Settings.{ends_well, has_ended, is_command, status_by, with_list_of}
pub use Rattle.sercos_idn.specs.Commands.{to_cancel, to_set}
pub use Rattle.std.specs.List.{list_all, list_any, sum_by}
