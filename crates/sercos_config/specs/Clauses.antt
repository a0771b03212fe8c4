-- The words that the contracts of this crate use, each from where it is defined.
pub use Rattle.hex.specs.Hex.{decode_of}
pub use Rattle.sercos_block.specs.Blocks.{is_number, is_signed, number_end}
pub use Rattle.sercos_block.specs.BuiltIns.{is_built_in}
pub use Rattle.sercos_block.specs.Rings.{are_cyclic, are_drive_numbers, are_drives, are_ring_numbers, are_times, are_turns, has_address, has_other_data, is_cyclic, is_drive, is_order, is_ring, is_turn}
pub use Rattle.sercos_block.specs.Rules.{block_fault, blocks_fault, has_block, is_limit, is_max_len, is_text}
pub use Rattle.sercos_block.specs.Startup.{start_steps_of, startup_of}
pub use Rattle.sercos_block.specs.Stores.{IsTyped, is_typed}
pub use Rattle.sercos_config.specs.Block.{attribute_under, block_keys, block_of, blocks_onto, fails_under, idn_in, idn_of, idn_under, step_under, text_under}
pub use Rattle.sercos_config.specs.Document.{document_in, document_of, ring_of, top_keys}
pub use Rattle.sercos_config.specs.Drive.{drive_keys, drive_numbers_of, drive_of, drives_onto, idn_at, idns_of, idns_onto, new_address, times_of}
pub use Rattle.sercos_config.specs.Fault.{any_station, damage_of, drive_station, fault_keys, fault_kind, fault_of, faults_onto, from_of, has_bit, has_from, has_link, has_station, has_telegram, hears, link_of, station_of, telegram_kind, telegram_of}
pub use Rattle.sercos_config.specs.Generated.{generated, generated_cycles, generated_drive, generated_fault, generated_job, generated_ring, generated_times, position_block, position_command, position_feedback}
pub use Rattle.sercos_config.specs.Numbers.{bits_of, data_of, fits_data, is_data, is_in_range, limit_of, list_bytes, list_data, list_max_len, max_len_of, number_data}
pub use Rattle.sercos_config.specs.Request.{asked_of, bytes_spelled, bytes_under, has_data, has_element, request_keys, request_kind, request_of, requests_onto}
pub use Rattle.sercos_config.specs.Ring.{head_of, listed_order, order_of, place_from, places_below, ring_keys, turn_of, turns_onto}
pub use Rattle.sercos_config.specs.Words.{address_under, glimpse, key_if, word}
pub use Rattle.sercos_document.specs.Answers.{Gives, Shows}
pub use Rattle.sercos_document.specs.Located.{located}
pub use Rattle.sercos_document.specs.Paths.{item_path}
pub use Rattle.sercos_document.specs.Tables.{known}
pub use Rattle.sercos_idn.specs.Attributes.{attribute_of}
pub use Rattle.sercos_idn.specs.Codes.{is_list, item_len}
pub use Rattle.sercos_model.specs.Bits.{AreBytes}
pub use Rattle.sercos_step.specs.Jobs.{AreJobs, IsCommand, IsJob}
pub use Rattle.sercos_step.specs.Steps.{AreTypedJobs, IsRequest, IsTypedRequest}
pub use Rattle.std.specs.List.{All, list_all, list_any, range_with_len, sum_by}
pub use Rattle.std.specs.Result.{result_ok}
pub use Rattle.toml.specs.Data.{as_str, get_member}
pub use Rattle.toml.specs.View.{items_view, table_view}
