-- The words that the contracts of this crate use, each from where it is defined.
pub use Rattle.sercos_block.specs.Rules.{blocks_fault}
pub use Rattle.sercos_block.specs.Views.{DriveView}
pub use Rattle.sercos_block.specs.declared.block.Block.{Block}
pub use Rattle.sercos_command.specs.Calls.{CommandHistory}
pub use Rattle.sercos_command.specs.Kept.{AreInOrder, CommandsStandFor, newest_cycle}
pub use Rattle.sercos_drive.specs.Annals.{cycle_at, phase_at, store_at, writes_at}
pub use Rattle.sercos_drive.specs.Heard.{DriveCall, Mdt, Mst, Restart, joint_in, mdt_got, mst_got, mst_in, record_in, single_in}
pub use Rattle.sercos_drive.specs.Kept.{DriveStandsFor, IsSlot, counted}
pub use Rattle.sercos_drive.specs.Laws.{Handed, HandedThose, StandsBelow5}
pub use Rattle.sercos_drive.specs.Says.{drive_says, start_in, value_in, values_in}
pub use Rattle.sercos_drive.specs.Slots.{bytes_at, feedback_bytes, feedback_in, feedback_of, slot_of}
pub use Rattle.sercos_drive.specs.Steps.{IsEntered, IsProcessed, ends_with, goes_to, may_rise_by, processed_by, record_by}
pub use Rattle.sercos_service_drive.specs.Kept.{ChannelStandsFor}
pub use Rattle.sercos_service_drive.specs.Log.{Processed}
pub use Rattle.sercos_service_drive.specs.Writes.{AreThose}
pub use Rattle.sercos_telegram.specs.Spells.{at_content}
pub use Rattle.std.specs.List.{filter_map, flat_map}
pub use Rattle.std.specs.Option.{option_copied}
