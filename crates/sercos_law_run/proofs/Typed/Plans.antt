-- The numbers of a plan are words, and so are the identifier numbers that telegrams carry.
use Rattle.sercos_law_run.proofs.Words.{◌≡◌, ◌⊎◌, inl, inr, ℕ, zero, suc, ◌<◌, ◌≤◌, ◌==◌, nat_lt, nat_le, true, not, List, [], ◌∷◌, ◌++◌, length, Option, Some, None, is_some, slice_index_or, refl, sym, subst, arith, slice_index, option_map, option_and_then, Ok, option_or, list_all, find, leb-true, and_parts, false≢true, nat_tests, get_or_past, All-map, All-from_get_or, Idn, Attribute, Outcome, WishesView, PlanView, record_bytes, Fits, IsValid, is_rate, is_cycle, is_control, is_roomy, least_plan, planned, roomy_test, is_of_least, least_fits, Block, BuiltIn, built_ins, has_address, has_drive_numbers, has_blocks, has_ring_numbers, attribute_in, number_len, is_typed, IsRing, DriveView, RingView, Known, MemberView, HasLists, IsKnown, member, member_of, known_of, wishes_given, known_of-IsRing, is_valid, no_drive, IsTyped, AreTyped, is_ring, are_ring_numbers, is_drive, are_drives, row_in, built_in_attribute, own_attribute, block_attribute, are_cyclic, cases_Bool, AllByRecursion, cyclic_len}
use Rattle.sercos_block.specs.Rings.{is_cyclic}
use Rattle.sercos_law_run.proofs.Start.PlanNumbers.{has_numbers}
use Rattle.sercos_law_run.proofs.Journal.StationLemmas.{drives_so}
use Rattle.sercos_law_run.proofs.Views.Members.{member_is}
use Rattle.sercos_law_run.proofs.Typed.StoreStays.{raw_typed}

-- THE RING THAT THE MASTER KNOWS
pub ring_known : ((r : RingView) → is_ring r ≡ true → IsRing r) → (r : RingView) → is_ring r ≡ true → AreTyped r → IsKnown (known_of r)
ring_known law r valid typed = known_of-IsRing r (law r valid) (All-map HasLists member_of r.drives (All-from_get_or (λ (d : DriveView). HasLists (member_of d)) r.drives no_drive (λ k below. ((typed k below).at, (typed k below).mdt))))

-- its own numbers
pub record IsTimed (s : Known) : Type 0 where
  pub cycle : s.cycle < 65536
  pub control : s.control < 65536

pub ring_timed : (r : RingView) → IsKnown (known_of r) → is_ring r ≡ true → IsTimed (known_of r)
unfolding is_ring are_ring_numbers
ring_timed r known valid =
    let numbers : has_ring_numbers r ≡ true = (and_parts (has_ring_numbers r) _ valid).0 in
    let after_cycle = (and_parts (is_cycle r.cycle) _ ((and_parts (is_rate r.rate) _ numbers).1)).1 in
    let after_control = (and_parts (is_control r.cycle r.control) _ after_cycle).1 in
    record {
      cycle = (elim known.cycles.cycle [
        | inl e ↦ omega (arith, e)
        | inr h ↦ omega (arith, h.1)
      ]);
      control = omega (arith, leb-true r.control 64000 (and_parts (nat_le r.control 64000) _ after_control).0);
    }

-- THE NUMBERS OF A PLAN, for one drive
pub record PlanWords (p : PlanView) (k : ℕ) : Type 0 where
  pub t1 : slice_index p.t1 k < 65536
  pub t2 : p.t2 < 65536
  pub t3 : p.t3 < 65536
  pub t4 : p.t4 < 65536
  pub position : slice_index p.position k < 65536
  pub mdt_len : p.mdt_len < 65536

fitting_words : (w : WishesView) (p : PlanView) (k : ℕ) → IsValid w → Fits w p → PlanWords p k
fitting_words w p k valid fits = elim (cases_Bool (nat_lt k (length w.drives))) [
  | inl is ↦
      let n = has_numbers w p k valid fits (grind (arith, nat_tests, is)) in
      make (omega (arith, n.t1_t2, n.t2_t3, n.t3_end, n.cycle)) (omega (arith, n.record_end, n.mdt_len))
  | inr is ↦
      let out : length w.drives ≤ k = grind (arith, nat_tests, is) in
      let b : slice_index p.position k ≡ 0 = get_or_past p.position k 0 (omega (arith, out, fits.places)) in
      make (omega (arith, get_or_past p.t1 k 0 (omega (arith, out, fits.times)))) (omega (arith, b))
]
  where
    make : slice_index p.t1 k < 65536 → slice_index p.position k < 65536 → PlanWords p k
    make t1 position =
        let n = has_numbers w p 0 valid fits valid.drives.some in
        let a = n.t2_t3 in
        let b = n.t3_end in
        let c = n.t4 in
        let d = n.mdt_len in
        let e = n.cycle in
        record { t1 = t1; t2 = omega (arith, a, b, e); t3 = omega (arith, b, e); t4 = omega (arith, c, e); position = position; mdt_len = omega (arith, d) }

planned_fits : (w : WishesView) (p : PlanView) → IsValid w → planned w ≡ Ok p → Fits w p
planned_fits w p valid is = elim (cases_Bool (is_roomy w)) [
  | inl on ↦
      let same : least_plan w ≡ p = (let is = rw on at is in cc) in
      subst (Fits w) same (least_fits w (least_plan w) valid (is_of_least w) (roomy_test w on))
  | inr off ↦ let is = rw off at is in cc
]

pub plan_words : (s : Known) (outs : ℕ → List Outcome) (p : PlanView) (k : ℕ) → IsKnown s → nat_le (record_bytes (wishes_given s outs).drives) 2047 ≡ true → planned (wishes_given s outs) ≡ Ok p → PlanWords p k
plan_words s outs p k known fits is = let valid = is_valid s outs known fits in fitting_words (wishes_given s outs) p k valid (planned_fits (wishes_given s outs) p valid is)

-- THE IDENTIFIER NUMBERS of what telegrams carry
abbrev pub AreIdns : List Idn → Type 0
AreIdns idns = AllByRecursion (λ i. i.raw < 65536) idns

both_some : (a b : Option Attribute) → is_some (option_or a b) ≡ true → (is_some a ≡ true) ⊎ (is_some b ≡ true)
both_some None b is = inr is
both_some (Some x) b is = inl refl

some_first : {A B : Type 0} (f : A → Option B) (o : Option A) → is_some (option_and_then f o) ≡ true → is_some o ≡ true
some_first f None is = is
some_first f (Some x) is = refl

block_some : (o : Option Block) → is_some (option_map (λ (b : Block). b.attribute) o) ≡ true → is_some o ≡ true
block_some None is = is
block_some (Some x) is = refl

row_low : (rows : List BuiltIn) (raw : ℕ) → list_all (λ (b : BuiltIn). nat_lt b.idn.raw 65536) rows ≡ true → is_some (row_in rows raw) ≡ true → raw < 65536
unfolding row_in
row_low [] raw low is = absurd (false≢true is)
row_low (b ∷ rows) raw low is =
    let parts = and_parts (nat_lt b.idn.raw 65536) (list_all (λ (c : BuiltIn). nat_lt c.idn.raw 65536) rows) low in
    elim (cases_Bool (b.idn.raw == raw)) [
      | inl here ↦ grind (arith, nat_tests, here, parts.0)
      | inr here ↦ row_low rows raw parts.1 (rw here at is)
    ]

own_low : (blocks : List Block) (raw : ℕ) → list_all is_typed blocks ≡ true → is_some (find (λ (b : Block). b.idn.raw == raw) blocks) ≡ true → raw < 65536
own_low [] raw typed is = absurd (false≢true is)
own_low (b ∷ blocks) raw typed is =
    let parts = and_parts (is_typed b) (list_all is_typed blocks) typed in elim (cases_Bool (b.idn.raw == raw)) [
      | inl here ↦ grind (arith, nat_tests, here, raw_typed b parts.0)
      | inr here ↦ own_low blocks raw parts.1 (rw here at is)
    ]

cyclic_low : (blocks : List Block) (raw : ℕ) → list_all is_typed blocks ≡ true → is_cyclic blocks raw ≡ true → raw < 65536
unfolding cyclic_len block_attribute built_in_attribute own_attribute
cyclic_low blocks raw typed is = elim (both_some (built_in_attribute raw) (own_attribute blocks raw) (some_first number_len _ is)) [
  | inl first ↦ row_low built_ins raw refl (some_first (λ (row : BuiltIn). attribute_in row.attribute) (row_in built_ins raw) first)
  | inr second ↦ own_low blocks raw typed (block_some _ second)
]

carried_low : (blocks : List Block) (idns : List Idn) → list_all is_typed blocks ≡ true → are_cyclic blocks idns ≡ true → AreIdns idns
unfolding are_cyclic
carried_low blocks [] typed are = tt
carried_low blocks (i ∷ idns) typed are = let parts = and_parts (is_cyclic blocks i.raw) (are_cyclic blocks idns) are in (cyclic_low blocks i.raw typed parts.0, carried_low blocks idns typed parts.1)

-- a drive, by what the master knows of it
pub record IsMember (d : MemberView) : Type 0 where
  pub at : AreIdns d.at
  pub mdt : AreIdns d.mdt
  pub at_few : length d.at ≤ 16
  pub mdt_few : length d.mdt ≤ 16

one_member : (before : List DriveView) (d : DriveView) → is_drive before d ≡ true → IsTyped d → IsMember (member_of d)
unfolding is_drive
one_member before d is typed =
    let after_numbers = (and_parts (has_drive_numbers d) _ ((and_parts (not (has_address d.address before)) _ is).1)).1 in
    let parts = and_parts (are_cyclic d.blocks d.at) (are_cyclic d.blocks d.mdt) ((and_parts (has_blocks d) _ after_numbers).1) in
    record { at = carried_low d.blocks d.at typed.blocks parts.0; mdt = carried_low d.blocks d.mdt typed.blocks parts.1; at_few = typed.at; mdt_few = typed.mdt }

members : (before drives : List DriveView) (k : ℕ) → are_drives before drives ≡ true → ((i : ℕ) → i < length drives → IsTyped (slice_index_or drives i no_drive)) → IsMember (member_of (slice_index_or drives k no_drive))
unfolding are_drives
members before [] k are typed = record { at = tt; mdt = tt; at_few = omega arith; mdt_few = omega arith }
members before (d ∷ drives) zero are typed = one_member before d (and_parts _ _ are).0 (typed 0 (omega arith))
members before (d ∷ drives) (suc k) are typed = members (before ++ d ∷ []) drives k (and_parts _ _ are).1 (λ i below. typed (suc i) (omega (arith, below)))

pub all_members : (r : RingView) (k : ℕ) → is_ring r ≡ true → AreTyped r → IsMember (member (known_of r) k)
all_members r k valid typed = subst IsMember (sym (member_is r k)) (members [] r.drives k (drives_so r valid) typed)
