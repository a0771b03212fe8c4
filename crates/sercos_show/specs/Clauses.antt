-- The words that the contracts of this crate use, each from where it is defined.
pub use Rattle.hex.specs.Hex.{encode_lower, hex_digit_value}
pub use Rattle.sercos_answer.specs.Answer.{refused_text}
pub use Rattle.sercos_hdlc.specs.Fed.{IsFed, taken_of}
pub use Rattle.sercos_hdlc.specs.Reason.{reason_of}
pub use Rattle.sercos_model.specs.Bits.{bits_of}
pub use Rattle.sercos_show.specs.Digits.{AreDigitPairs}
pub use Rattle.sercos_show.specs.Line.{byte_of, count_fault, dash_fault, digits_fault, has_spare, hex_bits, hex_fault, kind_fault, kind_of, kind_text, line_bits, line_fault, numbers_bits, numbers_fault, wanted_digits}
pub use Rattle.sercos_show.specs.Places.{IsRefusedAt}
pub use Rattle.sercos_show.specs.Show.{at_text, bit_and_number, bit_text, content_text, data_text, frame_text, layout_or, layout_text, mst_text, refusal_text, show_answer, single_text, two_bits, two_words, wanted_address, wanted_len, word_text}
pub use Rattle.sercos_show.specs.SpelledLine.{IsLine}
pub use Rattle.sercos_show.specs.declared.line.LineKind.{LineKind}
pub use Rattle.sercos_telegram.specs.Faults.{at_fault, mst_fault, single_fault}
pub use Rattle.sercos_telegram.specs.Spells.{word_at}
pub use Rattle.sercos_telegram.specs.Words.{control_of, status_of}
pub use Rattle.sercos_text.specs.Fields.{number_len, number_of, pairs_of}
pub use Rattle.std.specs.Char.{is_ascii_hexdigit}
pub use Rattle.std.specs.List.{common_prefix_len, prefix_len}
pub use Rattle.std.specs.Result.{result_err, result_ok}
