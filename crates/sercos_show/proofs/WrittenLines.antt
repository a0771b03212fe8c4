-- The line `KIND COUNT HEX` of any bits, and one such line computed.
use Rattle.std.proofs.Common.{◌≡◌, ℕ, ◌+◌, ◌-◌, ◌*◌, ◌/◌, ◌%◌, ◌≤◌, ◌==◌, Bool, false, List, [], ◌∷◌, ◌++◌, length, map, replicate, Some, None, refl, arith, codes, decimal, length-append}
use Rattle.std.proofs.lemmas.List.{length-replicate}
use Rattle.hex.specs.Hex.{encode_lower}
use Rattle.hex.proofs.HexLemmas.{decode_of-encode_lower}
use Rattle.hex.proofs.OnLiterals.{hex_on_literals}
use Rattle.sercos_model.specs.Bits.{is_odd, low_bits, bits_of, bytes_of}
use Rattle.sercos_model.proofs.BitLemmas.{bits_of-bytes_of, AreBytes-bytes_of, AreBytes-get_or}
use Rattle.sercos_text.specs.Fields.{pairs_of, number_fault}
use Rattle.sercos_show.specs.Line.{byte_of, wanted_digits, has_spare, kind_text, kind_of, fault_by, bits_by, count_fault, digits_fault, hex_fault, numbers_fault, line_fault, hex_bits, numbers_bits, line_bits}
use Rattle.sercos_show.specs.declared.line.LineKind.{LineKind}
use Rattle.sercos_show.specs.SpelledLine.{AreDigitsOf, IsHexOf, IsLine}
use Rattle.sercos_show.proofs.SpelledLines.{line_spelled}

-- the digits of some bits, in lower case
written_digits : (bits : List Bool) → (text : List ℕ) × AreDigitsOf text bits
written_digits bits =
    let spare : ℕ = 8 * ((length bits + 7) / 8) - length bits in
    let padded : List Bool = bits ++ replicate spare false in
    let whole : length padded % 8 ≡ 0 = omega (arith, length-append bits (replicate spare false), length-replicate spare false) in
    let bytes : List ℕ = bytes_of padded in
    let decoded = decode_of-encode_lower bytes (λ i. AreBytes-get_or bytes i (AreBytes-bytes_of padded)) in
    (encode_lower bytes, record { bytes = bytes; decoded = decoded; spare = spare; few = omega arith; filled = bits_of-bytes_of padded whole })

pub written_hex : (bits : List Bool) → (text : List ℕ) × IsHexOf text bits
unfolding IsHexOf
written_hex [] = (codes "-", refl)
written_hex (bit ∷ bits) = written_digits (bit ∷ bits)

-- bits that aren't too many have a line
pub line_written : (kind : LineKind) (bits : List Bool) → length bits ≤ 19696 → (line : List ℕ) × IsLine kind line bits
line_written kind bits fits =
    let hex = written_hex bits in
    (kind_text kind ++ decimal (length bits) ++ codes " " ++ hex.0, record { fits = fits; hex = hex.0; spelled = hex.1; whole = refl })

-- the line of a frame, and its bits in their order on the ring
abbrev frame_line : List ℕ
frame_line = codes "raw 49 7edf010ee1fd00"

abbrev frame_bits : List Bool
frame_bits = map (λ digit. digit == 49) (codes "0111111011111011100000000111000010000111101111110")

frame_line-line_fault : line_fault frame_line ≡ None
unfolding line_fault fault_by kind_of numbers_fault count_fault number_fault hex_fault digits_fault has_spare byte_of pairs_of wanted_digits hex_on_literals
frame_line-line_fault = refl

frame_line-line_bits : line_bits frame_line ≡ frame_bits
unfolding line_bits bits_by kind_of numbers_bits hex_bits pairs_of wanted_digits hex_on_literals bits_of low_bits is_odd
frame_line-line_bits = refl

frame_line-IsLine : (kind : LineKind) × (kind_of frame_line ≡ Some kind) × IsLine kind frame_line frame_bits
frame_line-IsLine = rw (← frame_line-line_bits) (line_spelled frame_line frame_line-line_fault)
