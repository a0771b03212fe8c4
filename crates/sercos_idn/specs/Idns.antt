-- Identifier numbers (IEC 61491:1995) and their text, which is this profile's: `S-0-0127`.
use Rattle.std.specs.Prelude.{ℕ, ◌+◌, ◌-◌, ◌*◌, ◌/◌, ◌%◌, ◌==◌, nat_lt, nat_le, Bool, not, ◌||◌, ◌&&◌, if◌then◌else◌, List, [], ◌∷◌, length, slice_index, Option}
use Rattle.std.specs.Bool.{then_some}
use Rattle.std.specs.Option.{option_or}
use Rattle.sercos_idn.specs.declared.idn.Slot.{Slot}
use Rattle.sercos_idn.specs.declared.idn.Slot.TheVariants.{Letter, Dash, Octal, Decimal}

-- the parts of an identifier number: bit 15, 0 for S and 1 for P; the parameter set, bits 14 to 12;
-- the number, bits 11 to 0
abbrev pub letter_of : ℕ → ℕ
letter_of raw = if nat_lt raw 32768 then 83 else 80

abbrev pub set_of : ℕ → ℕ
set_of raw = raw / 4096 % 8

abbrev pub number_of : ℕ → ℕ
number_of raw = raw % 4096

-- the four decimal digits of a number below 10000
unfoldable pub four_digits : ℕ → List ℕ
four_digits n = (48 + n / 1000) ∷ (48 + n / 100 % 10) ∷ (48 + n / 10 % 10) ∷ (48 + n % 10) ∷ []

-- the only spelling: the letter, the parameter set as one digit, and the number in four decimal
-- digits, joined by `-`
unfoldable pub idn_text : ℕ → List ℕ
idn_text raw = letter_of raw ∷ 45 ∷ (48 + set_of raw) ∷ 45 ∷ four_digits (number_of raw)

-- whether a byte fits a slot: `S` or `P`, `-`, a digit up to 7, any digit
abbrev pub can_stand : Slot → ℕ → Bool
can_stand Letter byte = (byte == 83) || (byte == 80)
can_stand Dash byte = byte == 45
can_stand Octal byte = nat_le 48 byte && nat_le byte 55
can_stand Decimal byte = nat_le 48 byte && nat_le byte 57

-- whether a text has a byte at an index, and the byte fits there
abbrev pub has_byte : List ℕ → ℕ → Slot → Bool
has_byte text place slot = nat_lt place (length text) && can_stand slot (slice_index text place)

-- the index, if the text has no byte there that fits; if all bytes before it fit, the index of a
-- missing byte is the text's length
abbrev pub slot_fault : List ℕ → ℕ → Slot → Option ℕ
slot_fault text place slot = then_some (not (has_byte text place slot)) place

-- the first fault in letter, dash, parameter set and dash
unfoldable pub head_fault : List ℕ → Option ℕ
head_fault text = option_or (slot_fault text 0 Letter)
    (option_or (slot_fault text 1 Dash) (option_or (slot_fault text 2 Octal) (slot_fault text 3 Dash)))

-- the first fault in the four digits of the number
unfoldable pub digits_fault : List ℕ → Option ℕ
digits_fault text =
    option_or (slot_fault text 4 Decimal)
    (option_or (slot_fault text 5 Decimal) (option_or (slot_fault text 6 Decimal) (slot_fault text 7 Decimal)))

-- the value of the digit at an index, and the number that the four digits spell
abbrev pub digit_at : List ℕ → ℕ → ℕ
digit_at text place = slice_index text place - 48

abbrev pub spelled_number : List ℕ → ℕ
spelled_number text = 1000 * digit_at text 4 + 100 * digit_at text 5 + 10 * digit_at text 6 + digit_at text 7

-- The index of the first byte that doesn't fit. A missing byte yields the text's length, a number
-- above 4095 the index of its first digit, and an overlong text the index of its ninth byte. If
-- several apply, the least index is the result: a number that is too large takes precedence over a
-- text that is too long.
unfoldable pub idn_fault : List ℕ → Option ℕ
idn_fault text =
    option_or (head_fault text)
    (option_or (digits_fault text)
    (option_or (then_some (nat_lt 4095 (spelled_number text)) 4)
    (then_some (nat_lt 8 (length text)) 8)))

-- the sixteen bits of the identifier number that a text without a fault spells
abbrev pub spelled_raw : List ℕ → ℕ
spelled_raw text = (if slice_index text 0 == 80 then 32768 else 0) + 4096 * digit_at text 2 + spelled_number text
