-- Lines of `show`, and a whole input with its answer, which the checker computes.
use Rattle.std.proofs.Common.{◌≡◌, ◌++◌, codes, Some, None, refl}
use Rattle.std.specs.Fmt.{digits}
use Rattle.hex.proofs.OnLiterals.{hex_on_literals}
use Rattle.sercos_model.specs.Bits.{is_odd, low_bits, number_of, bits_of, bytes_of}
use Rattle.sercos_model.specs.CheckSequence.{sum_of, added, divided, fcs_of}
use Rattle.sercos_hdlc.specs.Reason.{begins_with_six, is_five, ends_in_five, six_place, unstuffed, given, unclosed, unreadable, reason_of}
use Rattle.sercos_telegram.specs.Faults.{head_fault, mst_fault}
use Rattle.sercos_io.specs.declared.status.Status.TheVariants.{Done, Refused}
use Rattle.sercos_text.specs.Fields.{pairs_of, number_fault}
use Rattle.sercos_show.specs.Line.{byte_of, wanted_digits, has_spare, kind_of, kind_fault, fault_by, bits_by, count_fault, dash_fault, digits_fault, hex_fault, numbers_fault, line_fault, hex_bits, numbers_bits, line_bits}
use Rattle.sercos_answer.specs.Answer.{line_feed}
use Rattle.sercos_answer.specs.Lines.{lines_of}
use Rattle.sercos_show.specs.Show.{layout_or, mst_text, content_text, frame_text, answer_by, line_answer, first_fault, show_text, show_status, show_answer}

-- no kind goes on with `x`; a letter in place of COUNT; a digit after a leading zero; a one after the last of four bits, which
-- the pair's first digit shows; after the last of two bits, which its second one shows
wrong_kind : line_fault (codes "rax 0 -") ≡ Some 2
unfolding line_fault fault_by kind_of kind_fault
wrong_kind = refl

wrong_count : line_fault (codes "raw x 7e") ≡ Some 4
unfolding line_fault fault_by kind_of numbers_fault count_fault number_fault
wrong_count = refl

leading_zero : line_fault (codes "single 07 7f") ≡ Some 8
unfolding line_fault fault_by kind_of numbers_fault count_fault number_fault
leading_zero = refl

spare_high : line_fault (codes "at 4 1f") ≡ Some 5
unfolding line_fault fault_by kind_of numbers_fault count_fault number_fault hex_fault digits_fault has_spare byte_of pairs_of wanted_digits hex_on_literals
spare_high = refl

spare_low : line_fault (codes "at 2 04") ≡ Some 5
unfolding line_fault fault_by kind_of numbers_fault count_fault number_fault hex_fault digits_fault has_spare byte_of pairs_of wanted_digits hex_on_literals
spare_low = refl

no_bits : line_fault (codes "mst 0 -") ≡ None
unfolding line_fault fault_by kind_of numbers_fault count_fault number_fault hex_fault dash_fault
no_bits = refl

-- the frame of the MST of phase 0
phase_0 : show_answer (codes "mst 49 7edf010ee1fd00" ++ line_feed) ≡ record { status = Done; output = codes "mst phase 0" ++ line_feed }
unfolding show_answer show_status show_text first_fault lines_of line_answer answer_by frame_text content_text layout_or mst_text mst_fault head_fault reason_of begins_with_six is_five ends_in_five six_place unstuffed given unclosed unreadable line_fault fault_by kind_of numbers_fault count_fault number_fault hex_fault digits_fault has_spare byte_of pairs_of wanted_digits hex_on_literals line_bits bits_by numbers_bits hex_bits bits_of bytes_of low_bits number_of is_odd fcs_of divided added sum_of digits
phase_0 = refl

-- a wrong second line alone is answered
second_line : show_answer (codes "mst 0 -" ++ line_feed ++ codes "raw x 7e" ++ line_feed) ≡ record { status = Refused; output = codes "refused line 2 column 5" ++ line_feed }
unfolding show_answer show_status show_text first_fault lines_of line_fault fault_by kind_of numbers_fault count_fault number_fault hex_fault dash_fault digits
second_line = refl
