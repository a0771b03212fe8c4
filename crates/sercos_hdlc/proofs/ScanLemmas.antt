-- A reader's steps.
use Rattle.std.proofs.Common.{◌≡◌, ℕ, suc, ◌+◌, ◌<◌, ◌≤◌, ◌==◌, ◌&&◌, ◌||◌, Bool, true, false, List, [], ◌∷◌, ◌++◌, ◌⊎◌, inl, inr, length, drop, get_or, refl, sym, ap, subst, ◌∙◌, arith, length-append, append_assoc, ◌*◌, ◌-◌}
use Rattle.std.proofs.lemmas.List.{append-nil, drop-append-le, drop_all, length-drop}
use Rattle.std.proofs.lemmas.Bool.{eq-eqb, ne_eqb, agree_below, agree_below_at}
use Rattle.std.proofs.Math.Bool.{and-true, and-false, or-false}
use mir.Val.{bool_byte}
use Rattle.sercos_model.specs.Bits.{is_odd, low_bits}
use Rattle.sercos_model.specs.Frames.{flag}
use Rattle.sercos_model.proofs.BitLemmas.{length-low_bits}
use Rattle.sercos_hdlc.specs.Reason.{unstuffed}
use Rattle.sercos_hdlc.specs.Sought.{agree, ones_after, has_six, dropped_after, IsSought, IsFound}
use Rattle.sercos_hdlc.proofs.SoughtLemmas.{IsSought-one, IsSought-zero, IsSought-more}

-- bits after the first eight
more_behind : (bits more : List Bool) → 8 ≤ length bits → drop 8 (bits ++ more) ≡ drop 8 bits ++ more
more_behind bits more behind = drop-append-le 8 bits more behind

-- after at most five ones six are still sought, and after six they are found
pub sought_of : {bits plain : List Bool} {ones closing : ℕ} {seventh dropped : Bool} → IsSought bits ones dropped plain ⊎ IsFound bits ones closing seventh dropped plain → ones ≤ 5 → IsSought bits ones dropped plain
sought_of (inl sought) few = sought
sought_of (inr found) few = absurd (omega (arith, found.six))

pub found_of : {bits plain : List Bool} {ones closing : ℕ} {seventh dropped : Bool} → IsSought bits ones dropped plain ⊎ IsFound bits ones closing seventh dropped plain → 5 < ones → IsFound bits ones closing seventh dropped plain
found_of (inl sought) many = absurd (omega (arith, sought.few))
found_of (inr found) many = found

-- before the first eight bits are whole nothing is sought
no_bits_yet : (bits more : List Bool) → length (bits ++ more) ≤ 8 → drop 8 (bits ++ more) ≡ drop 8 bits
no_bits_yet bits more few = drop_all 8 (bits ++ more) few ∙ sym (drop_all 8 bits (omega (arith, length-append bits more)))

-- the steps of a search, by what the code computes
plain_step : {bits plain : List Bool} {ones : ℕ} {dropped : Bool} (bit : Bool) (unit : ℕ) → IsSought bits ones dropped plain → ones < 5 → unit ≡ bool_byte bit → IsSought (bits ++ bit ∷ []) ((ones + 1) * unit) (dropped && bit) (plain ++ bit ∷ [])
plain_step {ones = ones} {dropped = dropped} true unit h few is =
    let next : (ones + 1) * unit ≡ suc ones = rw is (omega arith) in
    rw (next, and-true dropped) (IsSought-one h few)
plain_step {ones = ones} {dropped = dropped} false unit h few is =
    let next : (ones + 1) * unit ≡ 0 = rw is (omega arith) in
    let short : (ones == 5) ≡ false = ne_eqb ones 5 (λ five. absurd (omega arith)) in
    rw (next, and-false dropped) (rw short at (IsSought-zero h))

pub first_way : {plain : List Bool} {ones closing : ℕ} {seventh dropped : Bool} (bits : List Bool) (bit : Bool) → IsSought (drop 8 bits) ones dropped plain ⊎ IsFound (drop 8 bits) ones closing seventh dropped plain → length bits < 8 → IsSought (drop 8 (bits ++ bit ∷ [])) ones dropped plain ⊎ IsFound (drop 8 (bits ++ bit ∷ [])) ones closing seventh dropped plain
first_way bits bit way short = rw (no_bits_yet bits (bit ∷ []) (omega (arith, length-append bits (bit ∷ [])))) way

pub plain_way : {plain : List Bool} {ones closing : ℕ} {seventh dropped : Bool} (bits : List Bool) (bit : Bool) (unit : ℕ) → IsSought (drop 8 bits) ones dropped plain ⊎ IsFound (drop 8 bits) ones closing seventh dropped plain → 8 ≤ length bits → ones < 5 → unit ≡ bool_byte bit → IsSought (drop 8 (bits ++ bit ∷ [])) ((ones + 1) * unit) (dropped && bit) (plain ++ bit ∷ [])
plain_way bits bit unit way behind few is =
    rw (more_behind bits (bit ∷ []) behind) (plain_step bit unit (sought_of way (omega arith)) few is)

pub inserted_way : {plain : List Bool} {ones closing : ℕ} {seventh dropped : Bool} (bits : List Bool) → IsSought (drop 8 bits) ones dropped plain ⊎ IsFound (drop 8 bits) ones closing seventh dropped plain → 8 ≤ length bits → ones ≡ 5 → IsSought (drop 8 (bits ++ false ∷ [])) 0 true plain
inserted_way {plain = plain} {ones = ones} bits way behind five =
    let here = eq-eqb ones 5 five in
    rw (more_behind bits (false ∷ []) behind) (rw (here, append-nil plain) at (IsSought-zero (sought_of way (omega arith))))

pub sixth_way : {plain : List Bool} {ones closing : ℕ} {seventh dropped : Bool} (bits : List Bool) (taken : ℕ) → IsSought (drop 8 bits) ones dropped plain ⊎ IsFound (drop 8 bits) ones closing seventh dropped plain → taken ≡ length bits → 8 ≤ length bits → ones ≡ 5 → IsFound (drop 8 (bits ++ true ∷ [])) 6 (taken - 6) false dropped plain
sixth_way {plain = plain} {ones = ones} {dropped = dropped} bits taken way is behind five = record {
  six = refl;
  before = drop 8 bits;
  more = [];
  whole = more_behind bits (true ∷ []) behind;
  sought = subst (λ n. IsSought (drop 8 bits) n dropped plain) five (sought_of way (omega arith));
  place = omega (arith, length-drop 8 bits);
  next = refl;
}

later_next : (more others : List Bool) (bit : Bool) (taken place : ℕ) → taken ≡ place + length more → (get_or more 0 false || (bit && (taken == place))) ≡ get_or (more ++ bit ∷ others) 0 false
later_next [] others bit taken place is = ap (λ v. bit && v) (eq-eqb taken place (omega arith)) ∙ and-true bit
later_next (one ∷ more) others bit taken place is =
    let behind : (taken == place) ≡ false = ne_eqb taken place (λ same. absurd (omega arith)) in
    ap (λ v. one || (bit && v)) behind ∙ ap (λ v. one || v) (and-false bit) ∙ or-false one

pub later_way : {plain : List Bool} {ones closing : ℕ} {seventh dropped : Bool} (bits others : List Bool) (bit : Bool) (taken : ℕ) → IsSought (drop 8 bits) ones dropped plain ⊎ IsFound (drop 8 bits) ones closing seventh dropped plain → taken ≡ length bits → 8 ≤ length bits → 5 < ones → IsFound (drop 8 (bits ++ bit ∷ others)) ones closing (seventh || (bit && (taken == closing + 7))) dropped plain
later_way {closing = closing} bits others bit taken way is behind many =
    let h = found_of way many in
    record {
      six = h.six;
      before = h.before;
      more = h.more ++ bit ∷ others;
      whole = more_behind bits (bit ∷ others) behind ∙ ap (λ b. b ++ bit ∷ others) h.whole ∙ append_assoc h.before (true ∷ h.more) (bit ∷ others);
      sought = h.sought;
      place = h.place;
      next = ap (λ v. v || (bit && (taken == closing + 7))) h.next ∙ later_next h.more others bit taken (closing + 7) (omega (arith, ap length h.whole, length-append h.before (true ∷ h.more), length-drop 8 bits, h.place));
    }

-- the bits of a byte that come first agree with the flag where it is one
all_flags : agree_below (λ b. agree (low_bits 8 b) flag) (λ b. b == 126) 256 ≡ true
unfolding agree low_bits is_odd
all_flags = refl

flag_byte : (byte : ℕ) → byte < 256 → agree (low_bits 8 byte) flag ≡ (byte == 126)
flag_byte byte below = agree_below_at (λ b. agree (low_bits 8 b) flag) (λ b. b == 126) 256 byte all_flags below

pub byte_agrees : (bits : List Bool) (byte : ℕ) → length bits ≡ 0 → byte < 256 → (byte == 126) ≡ agree (bits ++ low_bits 8 byte) flag
byte_agrees [] byte none below = sym (flag_byte byte below)
byte_agrees (bit ∷ bits) byte none below = absurd (omega arith)

pub first_byte_way : {plain : List Bool} {ones closing : ℕ} {seventh dropped : Bool} (bits : List Bool) (byte : ℕ) → IsSought (drop 8 bits) ones dropped plain ⊎ IsFound (drop 8 bits) ones closing seventh dropped plain → length bits ≡ 0 → IsSought (drop 8 (bits ++ low_bits 8 byte)) ones dropped plain ⊎ IsFound (drop 8 (bits ++ low_bits 8 byte)) ones closing seventh dropped plain
first_byte_way bits byte way none = rw (no_bits_yet bits (low_bits 8 byte) (omega (arith, length-append bits (low_bits 8 byte), length-low_bits 8 byte))) way

pub clear_way : {plain : List Bool} {ones closing : ℕ} {seventh dropped : Bool} (bits more : List Bool) (behind_ones : ℕ) (behind_dropped : Bool) → IsSought (drop 8 bits) ones dropped plain ⊎ IsFound (drop 8 bits) ones closing seventh dropped plain → 8 ≤ length bits → ones ≤ 5 → has_six ones more ≡ false → behind_ones ≡ ones_after ones more → behind_dropped ≡ dropped_after ones dropped more → IsSought (drop 8 (bits ++ more)) behind_ones behind_dropped (plain ++ unstuffed ones more)
clear_way bits more behind_ones behind_dropped way behind few none is also =
    rw (more_behind bits more behind, is, also) (IsSought-more more (sought_of way few) none)

-- the sixth one comes after the bits `before`
pub end_way : {plain : List Bool} {ones closing : ℕ} {seventh dropped : Bool} (bits before rest : List Bool) (taken place : ℕ) (behind_seventh behind_dropped : Bool) → IsSought (drop 8 bits) ones dropped plain ⊎ IsFound (drop 8 bits) ones closing seventh dropped plain → taken ≡ length bits → 8 ≤ length bits → ones ≤ 5 → length before ≡ place → has_six ones before ≡ false → ones_after ones before ≡ 5 → behind_dropped ≡ dropped_after ones dropped before → behind_seventh ≡ get_or rest 0 false → IsFound (drop 8 (bits ++ (before ++ true ∷ rest))) 6 (taken + place - 6) behind_seventh behind_dropped (plain ++ unstuffed ones before)
end_way {plain = plain} {ones = ones} bits before rest taken place behind_seventh behind_dropped way is behind few long none five also next =
    let sought = IsSought-more before (sought_of way few) none in
    record {
      six = refl;
      before = drop 8 bits ++ before;
      more = rest;
      whole = more_behind bits (before ++ true ∷ rest) behind ∙ sym (append_assoc (drop 8 bits) before (true ∷ rest));
      sought = rw (five, ← also) at sought;
      place = omega (arith, is, behind, long, length-drop 8 bits, length-append (drop 8 bits) before);
      next = next;
    }
