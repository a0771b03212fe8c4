-- The fields of a line. For a field at the front of a text, `_fault` is the index of the first byte
-- that doesn't fit, if there is one; `_len` is the number of bytes of the field; and `_of` is its
-- value. The index of a missing byte is the text's length.
use Rattle.std.specs.Prelude.{ℕ, ℤ, pos, ◌-ℤ◌, ◌+◌, ◌-◌, ◌*◌, ◌%◌, ◌==◌, nat_lt, nat_le, cond, Bool, true, ◌||◌, ◌&&◌, if◌then◌else◌, List, [], ◌∷◌, take, drop, slice_index, Option, None}
use Rattle.std.specs.Bool.{then_some}
use Rattle.std.specs.Char.{is_ascii_digit}
use Rattle.std.specs.List.{prefix_len}
use Rattle.std.specs.Option.{option_or, option_map}
use Rattle.std.specs.Result.{result_unwrap_or}
use Rattle.std.specs.Str.Parse.{digits_value}
use Rattle.hex.specs.Hex.{decode_of}

-- an index, counted from the front of the text before these bytes
abbrev pub behind : ℕ → Option ℕ → Option ℕ
behind bytes place = option_map (λ p. bytes + p) place

-- ---- a number: decimal digits without a leading zero

-- the number of digits at the front
abbrev pub number_len : List ℕ → ℕ
number_len text = prefix_len is_ascii_digit text

-- the number that the digits at the front spell
abbrev pub number_of : List ℕ → ℕ
number_of text = digits_value 10 (take (number_len text) text)

-- no digit; a digit after a leading zero; a number above the largest (at its first digit)
unfoldable pub number_fault : ℕ → List ℕ → Option ℕ
number_fault most text =
    option_or (then_some (number_len text == 0) 0)
    (option_or (then_some ((slice_index text 0 == 48) && nat_lt 1 (number_len text)) 1)
    (then_some (nat_lt most (number_of text)) 0))

-- ---- a signed number: a `-` before a negative one, nothing before others

-- whether the text begins with `-`
abbrev pub is_negative : List ℕ → Bool
is_negative text = slice_index text 0 == 45

-- after the `-`: no digit; a zero; a number above the largest
unfoldable pub negative_fault : ℕ → List ℕ → Option ℕ
negative_fault most text =
    option_or (then_some (number_len text == 0) 0)
    (option_or (then_some (slice_index text 0 == 48) 0)
    (then_some (nat_lt most (number_of text)) 0))

-- as above, for a number of 32 bits
unfoldable pub signed_fault : List ℕ → Option ℕ
signed_fault text =
    if is_negative text then behind 1 (negative_fault 2147483648 (drop 1 text)) else number_fault 2147483647 text

-- the number of bytes, with the `-`
unfoldable pub signed_len : List ℕ → ℕ
signed_len text = if is_negative text then 1 + number_len (drop 1 text) else number_len text

-- the number
unfoldable pub signed_of : List ℕ → ℤ
signed_of text = if is_negative text then pos 0 -ℤ pos (number_of (drop 1 text)) else pos (number_of text)

-- ---- bytes: two hexadecimal digits in lower case each, or `-` for none

-- whether a byte is a hexadecimal digit in lower case
abbrev pub is_hex : ℕ → Bool
is_hex byte = (nat_le 48 byte && nat_le byte 57) || (nat_le 97 byte && nat_le byte 102)

-- whether the text begins with `-`
abbrev pub is_dash : List ℕ → Bool
is_dash text = slice_index text 0 == 45

-- the number of hexadecimal digits at the front
abbrev pub hex_digits : List ℕ → ℕ
hex_digits text = prefix_len is_hex text

-- no digit; the first digit of a byte too many; the second digit of a byte missing
unfoldable pub pairs_fault : ℕ → List ℕ → Option ℕ
pairs_fault most text =
    option_or (then_some (hex_digits text == 0) 0)
    (option_or (then_some (nat_lt (2 * most) (hex_digits text)) (2 * most))
    (then_some (hex_digits text % 2 == 1) (hex_digits text)))

-- the same, unless there is a `-`
unfoldable pub hex_fault : ℕ → List ℕ → Option ℕ
hex_fault most text = if is_dash text then None else pairs_fault most text

-- the number of bytes of the text
unfoldable pub hex_len : List ℕ → ℕ
hex_len text = if is_dash text then 1 else hex_digits text

-- the bytes that digits spell; no bytes if they don't spell any
unfoldable pub pairs_of : List ℕ → List ℕ
pairs_of text = result_unwrap_or (decode_of text) []

-- the bytes that the text spells
unfoldable pub hex_of : List ℕ → List ℕ
hex_of text = if is_dash text then [] else pairs_of (take (hex_digits text) text)

-- a fixed number of bytes: the first byte of the text that is not a digit
unfoldable pub digits_fault : ℕ → List ℕ → Option ℕ
digits_fault count text = then_some (nat_lt (hex_digits text) (2 * count)) (hex_digits text)

-- the value of a hexadecimal digit in lower case
unfoldable pub digit_of : ℕ → ℕ
digit_of c = cond (nat_le c 57) (c - 48) (c - 87)

-- the bytes that pairs of digits spell
unfoldable pub low_pairs : List ℕ → List ℕ
low_pairs (high ∷ low ∷ text) = (digit_of high * 16 + digit_of low) ∷ low_pairs text
low_pairs _ = []

-- whether all bytes are hexadecimal digits in lower case
unfoldable pub all_hex : List ℕ → Bool
all_hex [] = true
all_hex (c ∷ text) = is_hex c && all_hex text
