-- The lines of `show`: `KIND COUNT HEX` with single spaces. KIND is `raw`, `mst`, `single` or `at`. COUNT is a number of bits in decimal
-- digits without leading zeros, at most 19696. HEX has two digits of either case for each eight bits begun, the first bit being the least
-- significant one of the first byte; bits past the last one are zeros. For no bits HEX is `-`.
use Rattle.std.specs.Prelude.{ℕ, ◌+◌, ◌-◌, ◌*◌, ◌/◌, ◌^◌, ◌==◌, nat_eq, nat_lt, nat_le, max, Bool, not, if◌then◌else◌, List, [], ◌∷◌, length, take, drop, slice_index, codes, Option, Some, None}
use Rattle.std.specs.Bool.{then_some}
use Rattle.std.specs.Char.{is_ascii_hexdigit}
use Rattle.std.specs.List.{prefix_len, common_prefix_len, find}
use Rattle.std.specs.Option.{option_or}
use Rattle.sercos_model.specs.Bits.{bits_of}
use Rattle.sercos_text.specs.Fields.{behind, number_len, number_of, number_fault, pairs_of}
use Rattle.sercos_show.specs.declared.line.LineKind.{LineKind}
use Rattle.sercos_show.specs.declared.line.LineKind.TheVariants.{Raw, Mst, Single, At}

-- the largest COUNT: the most bits that a frame of 2048 content bytes may have
abbrev pub most_bits : ℕ
most_bits = 19696

-- the byte that two hexadecimal digits spell, or 0 where they are no such digits
unfoldable pub byte_of : ℕ → ℕ → ℕ
byte_of high low = slice_index (pairs_of (high ∷ low ∷ [])) 0

-- how many digits the HEX of `count` bits has
unfoldable pub wanted_digits : ℕ → ℕ
wanted_digits count = 2 * ((count + 7) / 8)

-- whether the last byte of `count` bits has a one after the last bit
unfoldable pub has_spare : ℕ → ℕ → Bool
has_spare count byte = nat_le (2 ^ (count - 8 * ((count + 7) / 8 - 1))) byte

-- The faults of a part of a line are places, from 0 on, counted from the part's first byte. A missing byte's place is
-- the part's length.

-- the kinds, each with the space after it
abbrev pub kind_text : LineKind → List ℕ
kind_text Raw = codes "raw "
kind_text Mst = codes "mst "
kind_text Single = codes "single "
kind_text At = codes "at "

-- how many bytes of a kind's text a line begins with
abbrev pub shared_with : List ℕ → LineKind → ℕ
shared_with line kind = common_prefix_len nat_eq line (kind_text kind)

-- the kind that a line is of
unfoldable pub kind_of : List ℕ → Option LineKind
kind_of line = find (λ kind. shared_with line kind == length (kind_text kind)) (Raw ∷ Mst ∷ Single ∷ At ∷ [])

-- where a line is of no kind: the first byte with which no kind goes on
unfoldable pub kind_fault : List ℕ → ℕ
kind_fault line = max (max (max (shared_with line Raw) (shared_with line Mst)) (shared_with line Single)) (shared_with line At)

-- COUNT and the space after it: the number's fault, or another byte than a space
unfoldable pub count_fault : List ℕ → Option ℕ
count_fault text =
    option_or (number_fault most_bits text) (then_some (not (slice_index text (number_len text) == 32)) (number_len text))

-- the HEX of no bits: another byte than `-`, and a byte after it
unfoldable pub dash_fault : List ℕ → Option ℕ
dash_fault text = option_or (then_some (not (slice_index text 0 == 45)) 0) (then_some (nat_lt 1 (length text)) 1)

-- The HEX of at least one bit. The last pair's spare bits are refused at its first digit, whether that digit alone shows them or the second
-- one. Elsewhere the first byte that is not a digit is refused, and then a byte too many.
unfoldable pub digits_fault : ℕ → List ℕ → Option ℕ
digits_fault count text =
    let wanted = wanted_digits count in
    let digits = prefix_len is_ascii_hexdigit text in
    let last = wanted - 2 in
    option_or (then_some (nat_le digits last) digits)
    (option_or (then_some (has_spare count (byte_of (slice_index text last) 48)) last)
    (option_or (then_some (nat_lt digits wanted) digits)
    (option_or (then_some (has_spare count (byte_of (slice_index text last) (slice_index text (last + 1)))) last)
    (then_some (nat_lt wanted (length text)) wanted))))

unfoldable pub hex_fault : ℕ → List ℕ → Option ℕ
hex_fault count text = if count == 0 then dash_fault text else digits_fault count text

-- what follows the kind
abbrev pub count_text : LineKind → List ℕ → List ℕ
count_text kind line = drop (length (kind_text kind)) line

-- what follows COUNT and its space
abbrev pub hex_text : List ℕ → List ℕ
hex_text text = drop (number_len text + 1) text

-- COUNT HEX
unfoldable pub numbers_fault : List ℕ → Option ℕ
numbers_fault text =
    option_or (count_fault text) (behind (number_len text + 1) (hex_fault (number_of text) (hex_text text)))

unfoldable pub fault_by : Option LineKind → List ℕ → Option ℕ
fault_by None line = Some (kind_fault line)
fault_by (Some kind) line = behind (length (kind_text kind)) (numbers_fault (count_text kind line))

-- the place of the first byte of a line that doesn't fit, if there is one
unfoldable pub line_fault : List ℕ → Option ℕ
line_fault line = fault_by (kind_of line) line

-- the bits of HEX
unfoldable pub hex_bits : ℕ → List ℕ → List Bool
hex_bits count text = take count (bits_of (pairs_of (take (wanted_digits count) text)))

unfoldable pub numbers_bits : List ℕ → List Bool
numbers_bits text = hex_bits (number_of text) (hex_text text)

unfoldable pub bits_by : Option LineKind → List ℕ → List Bool
bits_by None line = []
bits_by (Some kind) line = numbers_bits (count_text kind line)

-- the bits of a line without a fault
unfoldable pub line_bits : List ℕ → List Bool
line_bits line = bits_by (kind_of line) line
