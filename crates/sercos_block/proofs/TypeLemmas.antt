-- The numbers of a block are those of their types, also after a write.
use Rattle.std.proofs.Common.{◌≡◌, ℕ, zero, suc, ◌<◌, ◌==◌, nat_lt, Bool, true, false, cond, List, [], ◌∷◌, Some, get_or, refl, arith}
use Rattle.std.specs.Int.{w16, to_le_bytes}
use Rattle.std.specs.List.{list_all}
use Rattle.std.proofs.lemmas.Bool.{and_parts, and_from}
use Rattle.std.proofs.lemmas.Bool.Decides.{nat_tests}
use Rattle.sercos_model.specs.Bits.{AreBytes}
use Rattle.sercos_block.specs.declared.block.Block.{Block}
use Rattle.sercos_block.specs.declared.built_in.Opening.{Opening}
use Rattle.sercos_block.specs.declared.built_in.Opening.TheVariants.{Zero, CycleTime, T1min, Tatmt, T4min, Tatat, Tmtsy, Tmtsg, Empty}
use Rattle.sercos_block.specs.BuiltIns.{opening_value}
use Rattle.sercos_block.specs.Stores.{find_block, with_data, is_typed, IsStore}
use Rattle.sercos_block.specs.Views.{DriveView}

pub typed_from : (b : Block) → nat_lt b.idn.raw 65536 ≡ true → nat_lt b.attribute.factor 65536 ≡ true → nat_lt b.step 4294967296 ≡ true → list_all (λ byte. nat_lt byte 256) b.value ≡ true → is_typed b ≡ true
unfolding is_typed
typed_from b number factor step bytes = and_from _ _ number (and_from _ _ factor (and_from _ _ step bytes))

-- each number of a list is below 256
pub bytes_by_index : (bytes : List ℕ) → ((i : ℕ) → get_or bytes i 0 < 256) → list_all (λ byte. nat_lt byte 256) bytes ≡ true
bytes_by_index [] each = refl
bytes_by_index (byte ∷ bytes) each =
    let here : byte < 256 = each 0 in
    and_from _ _ (grind (arith, nat_tests)) (bytes_by_index bytes (λ i. each (suc i)))

pub bytes_from : (bytes : List ℕ) → AreBytes bytes → list_all (λ byte. nat_lt byte 256) bytes ≡ true
unfolding AreBytes
bytes_from [] are = refl
bytes_from (byte ∷ bytes) are =
    let here : byte < 256 = are.0 in
    and_from _ _ (grind (arith, nat_tests)) (bytes_from bytes are.1)

bytes_typed : (bytes : List ℕ) → list_all (λ byte. nat_lt byte 256) bytes ≡ true → AreBytes bytes
unfolding AreBytes
bytes_typed [] are = tt
bytes_typed (byte ∷ bytes) are =
    let (here, rest) = and_parts (nat_lt byte 256) (list_all (λ byte. nat_lt byte 256) bytes) are in
    (grind (arith, nat_tests), bytes_typed bytes rest)

word_bytes : (n : ℕ) → list_all (λ byte. nat_lt byte 256) (to_le_bytes w16 n) ≡ true
word_bytes n = bytes_by_index (to_le_bytes w16 n) each
  where
    each : (i : ℕ) → get_or (to_le_bytes w16 n) i 0 < 256
    each zero = omega arith
    each (suc zero) = omega arith
    each (suc (suc i)) = omega arith

pub typed_opening : (d : DriveView) (o : Opening) → list_all (λ byte. nat_lt byte 256) (opening_value d o) ≡ true
typed_opening d Zero = refl
typed_opening d CycleTime = refl
typed_opening d T1min = word_bytes d.times.t1min
typed_opening d Tatmt = word_bytes d.times.tatmt
typed_opening d T4min = word_bytes d.times.t4min
typed_opening d Tatat = word_bytes d.times.tatat
typed_opening d Tmtsy = word_bytes d.times.tmtsy
typed_opening d Tmtsg = word_bytes d.times.tmtsg
typed_opening d (Empty most) = refl

typed_written : (b : Block) (bytes : List ℕ) → list_all (λ byte. nat_lt byte 256) bytes ≡ true → is_typed b ≡ true → is_typed (record b { value = bytes }) ≡ true
unfolding is_typed
typed_written b bytes are typed =
    let (number, after_number) = and_parts (nat_lt b.idn.raw 65536) _ typed in
    let (factor, after_factor) = and_parts (nat_lt b.attribute.factor 65536) _ after_number in
    let (step, old) = and_parts (nat_lt b.step 4294967296) _ after_factor in
    and_from _ _ number (and_from _ _ factor (and_from _ _ step are))

pub typed_stays : (raw : ℕ) (bytes : List ℕ) (blocks : List Block) → list_all (λ byte. nat_lt byte 256) bytes ≡ true → list_all is_typed blocks ≡ true → list_all is_typed (with_data raw bytes blocks) ≡ true
typed_stays raw bytes [] are typed = refl
typed_stays raw bytes (b ∷ blocks) are typed =
    let (here, rest) = and_parts (is_typed b) (list_all is_typed blocks) typed in
    and_from _ _ (by (b.idn.raw == raw) here) (typed_stays raw bytes blocks are rest)
  where
    by : (same : Bool) → is_typed b ≡ true → is_typed (cond same (record b { value = bytes }) b) ≡ true
    by true here = typed_written b bytes are here
    by false here = here

pub types : (blocks : List Block) (raw : ℕ) (b : Block) → IsStore blocks → find_block raw blocks ≡ Some b → (b.attribute.factor < 65536) × AreBytes b.value
unfolding is_typed
types blocks raw b store found = among blocks store.typed found
  where
    parts : is_typed b ≡ true → (b.attribute.factor < 65536) × AreBytes b.value
    parts typed =
        let (_, after_number) = and_parts (nat_lt b.idn.raw 65536) _ typed in
        let (factor, after_factor) = and_parts (nat_lt b.attribute.factor 65536) _ after_number in
        let (_, bytes) = and_parts (nat_lt b.step 4294967296) _ after_factor in
        (grind (arith, nat_tests), bytes_typed b.value bytes)

    among : (others : List Block) → list_all is_typed others ≡ true → find_block raw others ≡ Some b → (b.attribute.factor < 65536) × AreBytes b.value
    among [] typed is = cc
    among (c ∷ others) typed is =
        let (here, rest) = and_parts (is_typed c) (list_all is_typed others) typed in
        by (c.idn.raw == raw) is here (among others rest)
      where
        by : (same : Bool) → cond same (Some c) (find_block raw others) ≡ Some b → is_typed c ≡ true → (find_block raw others ≡ Some b → (b.attribute.factor < 65536) × AreBytes b.value)
            → (b.attribute.factor < 65536) × AreBytes b.value
        by true is here rest = let same : c ≡ b = cc in parts (rw same at here)
        by false is here rest = rest is
