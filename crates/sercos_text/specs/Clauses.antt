-- The words that the contracts of this crate use, each from where it is defined.
pub use Rattle.hex.specs.Hex.{encode_lower}
pub use Rattle.sercos_text.specs.Fields.{all_hex, digit_of, digits_fault, hex_digits, hex_fault, hex_len, hex_of, is_dash, is_hex, low_pairs, negative_fault, number_fault, number_len, number_of, pairs_fault, signed_fault, signed_len, signed_of}
pub use Rattle.sercos_text.specs.Given.{most_bytes, value_of}
pub use Rattle.sercos_text.specs.Lists.{AreItems, goes_on, item_fault, item_len, item_of, item_text, kept_of, list_fault, list_len, list_of, list_text, listed_fault, listed_len}
pub use Rattle.sercos_text.specs.Tails.{IsTail, addresses_in, end_fault, idents_text, is_no_list, list_end_fault, tail_fault, tail_of, tail_text}
pub use Rattle.sercos_text.specs.Templates.{AreOf, IsLine, Value, byte_fault, bytes_by, field_fault, field_len, field_of, field_value, hex_text, is_field, is_template, items_of, line_fault, line_text, numbers_in, part_fault, part_left, part_len, part_text, part_values, signed_by, value_text, values_of}
pub use Rattle.sercos_text.specs.declared.list.Item.{Item}
pub use Rattle.sercos_text.specs.declared.tail.Tail.{Tail}
pub use Rattle.std.specs.Fmt.{signed_decimal}
pub use Rattle.std.specs.Result.{result_err}
