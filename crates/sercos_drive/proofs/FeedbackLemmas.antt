-- What is kept of the blocks gives the values that an AT carries.
use Rattle.std.proofs.Common.{◌≡◌, ℕ, zero, suc, ◌+◌, ◌*◌, ◌%◌, ◌<◌, ◌≤◌, ◌==◌, nat_lt, nat_le, Bool, true, false, not, ◌&&◌, List, [], ◌∷◌, ◌++◌, length, append-nil, get_or, Option, Some, None, refl, sym, ◌∙◌, ap, cond, subst, if◌then◌else◌, arith}
use Rattle.std.specs.Prelude.{option_and_then, unwrap_or}
use Rattle.std.specs.List.{flat_map, list_all}
use Rattle.std.specs.Int.{to_le_bytes, from_le_bytes, w16, w32}
use Rattle.std.proofs.Math.Nat.{mod-eq_of_lt}
use Rattle.std.proofs.lemmas.Nat.{le_bytes_2, le_bytes_4}
use Rattle.std.proofs.lemmas.Bool.{and_parts}
use Rattle.std.proofs.lemmas.Bool.Decides.{nat_tests}
use Rattle.std.proofs.lemmas.Grind.{flat_map-append}
use Rattle.sercos_telegram.specs.declared.words.Status.{Status}
use Rattle.sercos_telegram.specs.Spells.{word_bytes, fields, at_content}
use Rattle.sercos_idn.specs.declared.idn.Idn.{Idn}
use Rattle.sercos_idn.specs.declared.kinds.Length.{Length}
use Rattle.sercos_idn.specs.declared.kinds.Length.TheVariants.{Two, Four, List1, List2, List4}
use Rattle.sercos_idn.specs.Codes.{is_list, item_len}
use Rattle.sercos_block.specs.declared.block.Block.{Block}
use Rattle.sercos_block.specs.Blocks.{is_number, width_of, number_end, bits_in, bytes_for}
use Rattle.sercos_block.specs.Stores.{find_block, is_typed, IsStore}
use Rattle.sercos_block.proofs.SoundLemmas.{value_len, found_sound}
use Rattle.sercos_service_drive.specs.Replies.{data_in}
use Rattle.sercos_drive.specs.declared.feedback.FeedbackValue.{FeedbackValue}
use Rattle.sercos_command.specs.Checks.{idns_at}
use Rattle.sercos_drive.specs.Says.{bytes_in_cycle, value_in, values_in}
use Rattle.sercos_drive.specs.declared.slot.Slot.{Slot}
use Rattle.sercos_drive.specs.Slots.{feedback_in, feedback_of, bytes_at, feedback_bytes}
use Rattle.sercos_drive.specs.Kept.{IsSlot}

-- the operation data of a block in a store are bytes
abbrev AreBytes : List ℕ → Type 0
AreBytes bytes = list_all (λ byte. nat_lt byte 256) bytes ≡ true

byte_below : (bytes : List ℕ) → AreBytes bytes → (i : ℕ) → get_or bytes i 0 < 256
byte_below [] are i = omega arith
byte_below (byte ∷ bytes) are zero = let (here, rest) = and_parts (nat_lt byte 256) _ are in grind (arith, nat_tests)
byte_below (byte ∷ bytes) are (suc i) = byte_below bytes (and_parts (nat_lt byte 256) _ are).1 i

typed_bytes : (b : Block) → is_typed b ≡ true → AreBytes b.value
unfolding is_typed
typed_bytes b typed =
    let (number, after_number) = and_parts (nat_lt b.idn.raw 65536) _ typed in
    let (factor, after_factor) = and_parts (nat_lt b.attribute.factor 65536) _ after_number in
    (and_parts (nat_lt b.step 4294967296) _ after_factor).1

found_typed : (raw : ℕ) (blocks : List Block) (b : Block) → list_all is_typed blocks ≡ true → find_block raw blocks ≡ Some b → is_typed b ≡ true
found_typed raw [] b all found = cc
found_typed raw (c ∷ blocks) b all found = by (c.idn.raw == raw) found (λ rest. found_typed raw blocks b (and_parts (is_typed c) _ all).1 rest)
  where
    by : (same : Bool) → cond same (Some c) (find_block raw blocks) ≡ Some b → (find_block raw blocks ≡ Some b → is_typed b ≡ true) → is_typed b ≡ true
    by true is more = let same : c ≡ b = cc in subst (λ (x : Block). is_typed x ≡ true) same (and_parts (is_typed c) _ all).0
    by false is more = more is

-- the bytes of a number are those of its bits
spelled : (kind : Length) (value : List ℕ) → is_list kind ≡ false → length value ≡ item_len kind → AreBytes value
    → to_le_bytes (width_of kind) (from_le_bytes (width_of kind) value % number_end kind) ≡ value
spelled Two value single len are =
    let small = byte_below value are in
    let first : get_or value 0 0 < 256 = small 0 in
    let second : get_or value 1 0 < 256 = small 1 in
    let below : from_le_bytes w16 value < 65536 = omega (arith, first, second) in
    le_bytes_2 value _ len small (mod-eq_of_lt below)
spelled Four value single len are =
    let small = byte_below value are in
    let first : get_or value 0 0 < 256 = small 0 in
    let second : get_or value 1 0 < 256 = small 1 in
    let third : get_or value 2 0 < 256 = small 2 in
    let fourth : get_or value 3 0 < 256 = small 3 in
    let below : from_le_bytes w32 value < 4294967296 = omega (arith, first, second, third, fourth) in
    le_bytes_4 value _ len small (mod-eq_of_lt below)
spelled List1 value single len are = cc
spelled List2 value single len are = cc
spelled List4 value single len are = cc

abbrev kept : Block → FeedbackValue
kept b = record { kind = b.attribute.length; bits = bits_in b.attribute b.value; step = b.step }

-- the operation data of a number in a cycle
data_kept : (cycle : ℕ) (b : Block) → is_list b.attribute.length ≡ false → length b.value ≡ item_len b.attribute.length → AreBytes b.value
    → bytes_at cycle (kept b) ≡ data_in cycle b
unfolding data_in
data_kept cycle b single len are = by (b.step == 0) refl
  where
    by : (still : Bool) → (b.step == 0) ≡ still
        → bytes_at cycle (kept b) ≡ (if still then b.value else bytes_for b.attribute ((bits_in b.attribute b.value + b.step * cycle) % number_end b.attribute.length))
    by true is =
        let none : b.step ≡ 0 = grind (arith, nat_tests, is) in
        let same : bits_in b.attribute b.value + b.step * cycle ≡ bits_in b.attribute b.value = rw none (omega arith) in
        ap (λ (n : ℕ). to_le_bytes (width_of b.attribute.length) (n % number_end b.attribute.length)) same ∙ spelled b.attribute.length b.value single len are
    by false is = refl

not_list : (a b : Bool) → (not a && b) ≡ true → a ≡ false
not_list false b is = refl
not_list true b is = cc

pub value_kept : (cycle : ℕ) (blocks : List Block) (idn : Idn) → IsStore blocks → feedback_bytes cycle (feedback_of blocks idn) ≡ value_in cycle blocks idn
unfolding value_in
value_kept cycle blocks idn store = by (find_block idn.raw blocks) refl
  where
    number : (b : Block) → find_block idn.raw blocks ≡ Some b → (t : Bool) → is_number b.attribute ≡ t
        → feedback_bytes cycle (if t then Some (kept b) else None) ≡ unwrap_or (if t then Some (data_in cycle b) else None) []
    number b found true is =
        let single = not_list (is_list b.attribute.length) _ is in
        data_kept cycle b single (value_len b single (found_sound idn.raw blocks b store.sound found)) (typed_bytes b (found_typed idn.raw blocks b store.typed found))
    number b found false is = refl

    by : (o : Option Block) → find_block idn.raw blocks ≡ o → feedback_bytes cycle (option_and_then feedback_in o) ≡ unwrap_or (option_and_then (bytes_in_cycle cycle) o) []
    by None is = refl
    by (Some b) is = number b is (is_number b.attribute) refl

-- one value more
pub one_more : (cycle : ℕ) (values : List FeedbackValue) (o : Option FeedbackValue) (v : FeedbackValue) → o ≡ Some v
    → flat_map (bytes_at cycle) (values ++ v ∷ []) ≡ flat_map (bytes_at cycle) values ++ feedback_bytes cycle o
one_more cycle values o v is = rw is (flat_map-append (bytes_at cycle) values (v ∷ []) ∙ ap (λ (rest : List ℕ). flat_map (bytes_at cycle) values ++ rest) (append-nil (bytes_at cycle v)))

-- what is kept of it gives the values of an AT
pub values_kept : (slot : Slot) (cycle phase : ℕ) (blocks : List Block) → 3 ≤ phase → IsSlot slot blocks
    → flat_map (bytes_at cycle) slot.feedback.items ≡ values_in cycle phase blocks
values_kept slot cycle phase blocks high is =
    let late : nat_le 3 phase ≡ true = grind (arith, nat_tests) in
    is.gives cycle ∙ sym (ap (λ (b : Bool). if b then flat_map (value_in cycle blocks) (idns_at blocks 16) else []) late)

-- an AT without values, and its values
pub with_values : (address : ℕ) (status : Status) (info : ℕ) (values : List ℕ) → at_content address status info [] ++ values ≡ at_content address status info values
unfolding fields word_bytes
with_values address status info values = refl
