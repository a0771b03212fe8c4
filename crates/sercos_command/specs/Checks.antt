-- The two transition checks over the blocks of a drive: the identifier numbers whose operation data
-- isn't fit for the phase.
use Rattle.std.specs.Prelude.{ℕ, ◌+◌, ◌-◌, ◌*◌, ◌/◌, ◌%◌, ◌==◌, nat_lt, Bool, not, ◌||◌, if◌then◌else◌, List, [], ◌∷◌, map, slice_index, Option, option_map, option_and_then, unwrap_or, is_some}
use Rattle.std.specs.List.{list_all, sum_by, filter}
use Rattle.sercos_model.specs.Frames.{wire_bits}
use Rattle.sercos_idn.specs.declared.idn.Idn.{Idn}
use Rattle.sercos_block.specs.declared.block.Block.{Block}
use Rattle.sercos_timing.specs.Valid.{is_cycle}
use Rattle.sercos_block.specs.Rings.{number_len, telegram_len}
use Rattle.sercos_block.specs.Stores.{find_block, is_below, is_above}

-- the operation data of the block with the identifier number; no bytes if there is no such block
abbrev pub data_at : List Block → ℕ → List ℕ
data_at blocks raw = unwrap_or (option_map (λ b. b.value) (find_block raw blocks)) []

-- the first two bytes of that operation data as a number, the low byte first; a missing byte is 0
unfoldable pub number_at : List Block → ℕ → ℕ
number_at blocks raw = slice_index (data_at blocks raw) 0 + 256 * slice_index (data_at blocks raw) 1

-- the identifier numbers that bytes spell, two bytes each, the low byte first
abbrev pub idns_in : List ℕ → List Idn
idns_in [] = []
idns_in (low ∷ []) = []
idns_in (low ∷ high ∷ bytes) = (record { raw = low + 256 * high }) ∷ idns_in bytes

-- the identifier numbers in the list with this identifier number
unfoldable pub idns_at : List Block → ℕ → List Idn
idns_at blocks raw = idns_in (data_at blocks raw)

-- the number of bytes that an identifier number adds to a telegram; `None` if there is no such
-- block, or it is a list or a procedure command
abbrev pub cyclic_len : List Block → ℕ → Option ℕ
cyclic_len blocks raw = option_and_then (λ b. number_len b.attribute) (find_block raw blocks)

-- whether a telegram can carry the identifier number
abbrev pub is_cyclic : List Block → Idn → Bool
is_cyclic blocks idn = is_some (cyclic_len blocks idn.raw)

-- the number of bytes of a telegram after its address, or of a data record, by its configuration
-- list
unfoldable pub carried_len : List Block → ℕ → ℕ
carried_len blocks list = telegram_len (λ (idn : Idn). cyclic_len blocks idn.raw) (idns_at blocks list)

-- What the check for phase 3 finds unfit, each rule named by the identifier number of the block
-- that breaks it. 1 is the control unit cycle time, 2 the cycle time, 3 T1min, 4 TATMT, 5 T4min, 6
-- T1, 7 T4, 8 T3, 9 the position of the data record, 10 the length of the MDT, 15 the telegram
-- type, 16 and 24 the configuration lists of AT and MDT, and 89 T2. Times are in microseconds,
-- lengths in bytes.

-- the cycle time is 0, or the control unit cycle time is 0 or not a multiple of it
unfoldable pub breaks_1 : List Block → Bool
breaks_1 blocks = (number_at blocks 2 == 0) || ((number_at blocks 1 == 0) || not (number_at blocks 1 % number_at blocks 2 == 0))

-- the cycle time isn't one of this profile
unfoldable pub breaks_2 : List Block → Bool
breaks_2 blocks = not (is_cycle (number_at blocks 2))

-- T1 is below T1min
unfoldable pub breaks_6 : List Block → Bool
breaks_6 blocks = nat_lt (number_at blocks 6) (number_at blocks 3)

-- T4 plus T4min is after the end of the cycle
unfoldable pub breaks_7 : List Block → Bool
breaks_7 blocks = nat_lt (number_at blocks 2) (number_at blocks 7 + number_at blocks 5)

-- T3 is 0, or after the end of the cycle
unfoldable pub breaks_8 : List Block → Bool
breaks_8 blocks = (number_at blocks 8 == 0) || nat_lt (number_at blocks 2) (number_at blocks 8)

-- the position of the data record is 0, or the record that begins there passes the end of the MDT
unfoldable pub breaks_9 : List Block → Bool
breaks_9 blocks = (number_at blocks 9 == 0) || nat_lt (number_at blocks 10) (number_at blocks 9 + carried_len blocks 24 - 1)

-- the MDT has no room for the two words of a record
unfoldable pub breaks_10 : List Block → Bool
breaks_10 blocks = nat_lt (number_at blocks 10) 4

-- the telegram type is not 7
unfoldable pub breaks_15 : List Block → Bool
breaks_15 blocks = not (number_at blocks 15 == 7)

-- the list has an identifier number that the drive does not have, or that is a list or a procedure
-- command
unfoldable pub breaks_list : ℕ → List Block → Bool
breaks_list list blocks = not (list_all (is_cyclic blocks) (idns_at blocks list))

-- there is less than TATMT between the end of the longest AT and T2, in bit times
unfoldable pub breaks_89 : ℕ → List Block → Bool
breaks_89 rate blocks =
    nat_lt (rate * number_at blocks 89) (rate * number_at blocks 6 + wire_bits (1 + carried_len blocks 16) + rate * number_at blocks 4)

-- the list, with the identifier number in front if its rule is broken
abbrev pub listed_if : ℕ → Bool → List Idn → List Idn
listed_if raw broken rest = if broken then (record { raw = raw }) ∷ rest else rest

-- the blocks whose operation data isn't fit for phase 3, ascending
unfoldable pub unfit_for_phase_3 : ℕ → List Block → List Idn
unfit_for_phase_3 rate blocks =
    listed_if 1 (breaks_1 blocks)
    (listed_if 2 (breaks_2 blocks)
    (listed_if 6 (breaks_6 blocks)
    (listed_if 7 (breaks_7 blocks)
    (listed_if 8 (breaks_8 blocks)
    (listed_if 9 (breaks_9 blocks)
    (listed_if 10 (breaks_10 blocks)
    (listed_if 15 (breaks_15 blocks)
    (listed_if 16 (breaks_list 16 blocks)
    (listed_if 24 (breaks_list 24 blocks)
    (listed_if 89 (breaks_89 rate blocks) []))))))))))

-- whether the operation data is a number below the minimum or above the maximum
abbrev pub is_outside : Block → Bool
is_outside b = is_below b b.value b.min || is_above b b.value b.max

-- the blocks whose operation data isn't fit for phase 4, in the order of the store
unfoldable pub unfit_for_phase_4 : List Block → List Idn
unfit_for_phase_4 blocks = map (λ (b : Block). b.idn) (filter is_outside blocks)

-- identifier numbers as bytes, two each, the low byte first
abbrev pub list_bytes : List Idn → List ℕ
list_bytes [] = []
list_bytes (idn ∷ idns) = (idn.raw % 256) ∷ (idn.raw / 256) ∷ list_bytes idns
