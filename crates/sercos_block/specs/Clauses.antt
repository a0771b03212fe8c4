-- The words that the contracts of this crate use, each from where it is defined.
pub use Rattle.sercos_block.specs.Blocks.{bits_in, bytes_for, element_of, is_number, is_protected, meant, number_end}
pub use Rattle.sercos_block.specs.BuiltIns.{built_in, built_in_block, is_built_in, opening_limit, opening_max_len, opening_value}
pub use Rattle.sercos_block.specs.Regions.{HasAppended, HasPacked, IsWithin, block_of, blocks_of, limit_at, limit_bits, limit_bytes, part_at, part_of, room_of, word_bytes}
pub use Rattle.sercos_block.specs.Rings.{HasLens, are_cyclic, are_drives, are_times, are_turns, at_len, attribute_in, block_attribute, built_in_attribute, cyclic_len, has_address, has_drive_numbers, has_drives, has_other_data, has_ring_numbers, is_drive, is_no_command, is_ring, is_turn, listed_len, mdt_len, number_len, own_attribute, record_len, row_in, value_len, wish_of, wishes_of}
pub use Rattle.sercos_block.specs.Rules.{block_fault, blocks_fault, has_block, is_limit, is_max_len, is_printable, is_step, is_text, is_value}
pub use Rattle.sercos_block.specs.Stores.{IsStore, are_ascending, data_fault, find_block, inserted, is_above, is_below, is_invalid, is_len, is_long, is_short, is_sound, is_typed, put_fault, read_fault, store_of, with_data, with_own, write_fault}
pub use Rattle.sercos_block.specs.ValidRings.{IsRing}
pub use Rattle.sercos_block.specs.Views.{DriveView, RingView}
pub use Rattle.sercos_block.specs.declared.block.Block.{Block}
pub use Rattle.sercos_idn.specs.Codes.{attribute_fault, is_list, item_len}
pub use Rattle.sercos_model.specs.Bits.{AreBytes}
pub use Rattle.sercos_timing.specs.Valid.{IsValid}
pub use Rattle.std.specs.Int.{to_le_bytes, w16}
pub use Rattle.std.specs.List.{All, list_all, list_any, position, position_or_len, splice, sum_by}
pub use Rattle.std.specs.List.Sorted.{IsPartitionPoint, IsPermutation}
pub use Rattle.std.specs.Result.{result_err}
