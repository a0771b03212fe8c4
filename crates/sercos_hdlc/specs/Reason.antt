-- Why a list of bits is not a frame: the first of nine rules that applies. Each rule is about the
-- whole list.
use Rattle.std.specs.Prelude.{ℕ, suc, ◌+◌, ◌-◌, ◌/◌, ◌%◌, ◌==◌, nat_lt, nat_le, Bool, true, false, not, ◌||◌, cond, List, [], ◌∷◌, length, take, drop, slice_index_or, Option, Some, None}
use Rattle.std.specs.Option.{option_or}
use Rattle.sercos_model.specs.Bits.{number_of, bytes_of}
use Rattle.sercos_model.specs.CheckSequence.{fcs_of}
use Rattle.sercos_hdlc.specs.declared.bad_frame.BadFrame.{BadFrame}
use Rattle.sercos_hdlc.specs.declared.bad_frame.BadFrame.TheVariants as bad

-- the list begins with the flag 01111110
abbrev pub opens : List Bool → Bool
opens (false ∷ true ∷ true ∷ true ∷ true ∷ true ∷ true ∷ false ∷ bits) = true
opens _ = false

-- the list begins with six ones
unfoldable pub begins_with_six : List Bool → Bool
begins_with_six (true ∷ true ∷ true ∷ true ∷ true ∷ true ∷ bits) = true
begins_with_six _ = false

-- the list is five ones
unfoldable pub is_five : List Bool → Bool
is_five (true ∷ true ∷ true ∷ true ∷ true ∷ []) = true
is_five _ = false

-- the list ends in five ones
unfoldable pub ends_in_five : List Bool → Bool
ends_in_five [] = false
ends_in_five (bit ∷ bits) = is_five (bit ∷ bits) || ends_in_five bits

-- the least offset at which six ones in a row begin, or the list's length without them
unfoldable pub six_place : List Bool → ℕ
six_place [] = 0
six_place (bit ∷ bits) = cond (begins_with_six (bit ∷ bits)) 0 (suc (six_place bits))

-- the bits without the inserted zeros, after k ones in a row: a zero after five ones is left out
unfoldable pub unstuffed : ℕ → List Bool → List Bool
unstuffed k [] = []
unstuffed k (true ∷ bits) = true ∷ unstuffed (suc k) bits
unstuffed k (false ∷ bits) = cond (k == 5) (unstuffed 0 bits) (false ∷ unstuffed 0 bits)

-- the offset of the first six ones in a row after the opening flag, or the list's length without
-- them
abbrev pub ones_at : List Bool → ℕ
ones_at bits = 8 + six_place (drop 8 bits)

-- the offset at which the closing flag begins: the bit before the six ones
abbrev pub closing_at : List Bool → ℕ
closing_at bits = ones_at bits - 1

-- the bits between the flags
abbrev pub body : List Bool → List Bool
body bits = take (closing_at bits - 8) (drop 8 bits)

-- the bits between the flags, without the inserted zeros
abbrev pub plain : List Bool → List Bool
plain bits = unstuffed 0 (body bits)

-- the content that plain bits spell: all bits but the last sixteen
abbrev pub content_of : List Bool → List ℕ
content_of bits = bytes_of (take (length bits - 16) bits)

-- the check sequence that plain bits spell: the last sixteen bits
abbrev pub found_in : List Bool → ℕ
found_in bits = number_of (drop (length bits - 16) bits)

-- the reason if its test is met, otherwise none
unfoldable pub given : Bool → BadFrame → Option BadFrame
given test reason = cond test (Some reason) None

-- The nine rules. The list doesn't begin with the flag.
abbrev pub no_open : List Bool → Option BadFrame
no_open bits = given (not (opens bits)) bad.NoOpen

-- there are no six ones in a row, or the list ends with the first six
abbrev pub no_close : List Bool → Option BadFrame
no_close bits = given (nat_le (length bits) (ones_at bits + 6)) (bad.NoClose (length bits))

-- the six ones follow the opening flag at once, or a seventh follows them
abbrev pub runs_on : List Bool → Option BadFrame
runs_on bits = given ((ones_at bits == 8) || slice_index_or bits (ones_at bits + 6) false) (bad.Abort (ones_at bits))

-- the body ends in five ones, and the zero after them belongs to the closing flag
abbrev pub zero_missing : List Bool → Option BadFrame
zero_missing bits = given (ends_in_five (body bits)) (bad.Abort (closing_at bits))

-- the plain bits are not whole bytes
abbrev pub ragged : List Bool → Option BadFrame
ragged plain = given (not (length plain % 8 == 0)) (bad.Ragged (length plain))

-- the plain bits are fewer than three bytes
abbrev pub short : List Bool → Option BadFrame
short plain = given (nat_lt (length plain / 8) 3) (bad.Short (length plain / 8))

-- the plain bits are more than 2050 bytes
abbrev pub long : List Bool → Option BadFrame
long plain = given (nat_lt 2050 (length plain / 8)) (bad.Long (length plain / 8))

-- the check sequence received is not the one computed
abbrev pub check_differs : List Bool → Option BadFrame
check_differs plain = given (not (found_in plain == fcs_of (content_of plain))) (bad.Check (found_in plain) (fcs_of (content_of plain)))

-- bits follow the closing flag
abbrev pub after : List Bool → Option BadFrame
after bits = given (nat_lt (closing_at bits + 8) (length bits)) (bad.After (closing_at bits + 8))

-- the first rule on the flags that applies
unfoldable pub unclosed : List Bool → Option BadFrame
unclosed bits = option_or (no_open bits) (option_or (no_close bits) (runs_on bits))

-- the first rule on the plain bits between the flags that applies
unfoldable pub unreadable : List Bool → Option BadFrame
unreadable plain = option_or (ragged plain) (option_or (short plain) (option_or (long plain) (check_differs plain)))

-- why the bits are no frame: the first of the nine rules that applies, or `None` if no rule does
unfoldable pub reason_of : List Bool → Option BadFrame
reason_of bits =
    option_or (unclosed bits) (option_or (zero_missing bits) (option_or (unreadable (plain bits)) (after bits)))
