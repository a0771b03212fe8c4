-- If a drive holds the start-up values of a plan that fits, its check for phase 3 finds nothing.
use Rattle.sercos_law_run.proofs.Words.{◌≡◌, ℕ, zero, suc, ◌+◌, ◌*◌, ◌<◌, ◌≤◌, ◌%◌, ◌==◌, nat_le, Bool, true, false, not, ◌||◌, List, [], length, Some, None, slice_get, slice_index, slice_index_or, refl, ◌∙◌, ap, subst, arith, and_parts, le-ltb, ne_eqb, or_from, leb-true, slice_get_within, wire_bits, Wish, WishesView, PlanView, no_wish, wish, times, Fits, most_cycle, IsValid, blocks_fault, DriveView, RingView, has_ring_numbers, has_drive_numbers, are_cyclic, has_address, record_len, wish_of, length_wishes, listed_if, PlanPassesCheck, is_cycle, is_control, are_ring_numbers, has_blocks, is_drive, is_ring, wishes_of, breaks_1, breaks_2, breaks_6, breaks_7, breaks_8, breaks_9, breaks_10, breaks_15, breaks_89, unfit_for_phase_3, IsRing-is_ring, get_or_from_slice_get, no_drive, none_of}
use Rattle.sercos_block.specs.Rings.{at_len}
use Rattle.sercos_law_run.proofs.Start.Lengths.{number_is, are_as_long, list_fits, declares_times}
use Rattle.sercos_law_run.proofs.Start.PlanNumbers.{HasNumbers, has_numbers}
use Rattle.sercos_law_run.proofs.Journal.StationLemmas.{drive_so, drives_so}
use Rattle.sercos_block.specs.ValidRings.{AreWithinLimits}
use Rattle.std.proofs.lemmas.List.{get_or-map}

-- the rules that each drive of a ring keeps, as far as they are needed here
pub record KeepsRules (d : DriveView) : Type 0 where
  pub times : AreWithinLimits d.times
  pub blocks : blocks_fault [] d.blocks ≡ None
  pub at : are_cyclic d.blocks d.at ≡ true
  pub mdt : are_cyclic d.blocks d.mdt ≡ true

keeps_rules : (before : List DriveView) (d : DriveView) → is_drive before d ≡ true → AreWithinLimits d.times → KeepsRules d
unfolding is_drive has_blocks
keeps_rules before d ok times =
    let (_, rest) = and_parts (not (has_address d.address before)) _ ok in
    let (_, rest2) = and_parts (has_drive_numbers d) _ rest in
    let (blocks, rest3) = and_parts (has_blocks d) _ rest2 in
    let (at, mdt) = and_parts (are_cyclic d.blocks d.at) (are_cyclic d.blocks d.mdt) rest3 in
    let (_, fault) = and_parts (nat_le (length d.blocks) 36) _ blocks in
    record { times = times; blocks = none_of _ fault; at = at; mdt = mdt }

pub ring_drive : (r : RingView) (k : ℕ) (d : DriveView) → is_ring r ≡ true → slice_get r.drives k ≡ Some d → KeepsRules d
ring_drive r k d ok at =
    let below = slice_get_within r.drives k d at in
    let is : slice_index_or r.drives k no_drive ≡ d = get_or_from_slice_get r.drives k d no_drive at in
    let (before, so) = drive_so [] r.drives k no_drive (drives_so r ok) below in
    keeps_rules before d (subst (λ (e : DriveView). is_drive before e ≡ true) is so)
    (subst (λ (e : DriveView). AreWithinLimits e.times) is ((IsRing-is_ring r ok).times k no_drive below))

pub ring_cycles : (r : RingView) → is_ring r ≡ true → (is_cycle r.cycle ≡ true) × (is_control r.cycle r.control ≡ true) × (nat_le r.control most_cycle ≡ true)
unfolding is_ring are_ring_numbers
ring_cycles r ok =
    let (numbers, _) = and_parts (has_ring_numbers r) _ ok in
    let (_, n1) = and_parts _ _ numbers in
    let (cycle, n2) = and_parts (is_cycle r.cycle) _ n1 in
    let (control, n3) = and_parts (is_control r.cycle r.control) _ n2 in
    let (most, _) = and_parts (nat_le r.control most_cycle) _ n3 in (cycle, control, most)

pub wish_is : (r : RingView) (k : ℕ) (d : DriveView) → slice_get r.drives k ≡ Some d → wish (wishes_of r) k ≡ wish_of d
unfolding wishes_of
wish_is r k d at = get_or-map wish_of r.drives k d no_wish (slice_get_within r.drives k d at)
    ∙ ap wish_of (get_or_from_slice_get r.drives k d d at)

within : (r : RingView) (k : ℕ) (d : DriveView) → slice_get r.drives k ≡ Some d → k < length (wishes_of r).drives
unfolding wishes_of
within r k d at = let less = slice_get_within r.drives k d at in let same = length_wishes r.drives in omega arith

-- what the numbers of the plan keep for this drive, in the drive's own words
pub record FitDrive (rate cycle : ℕ) (d : DriveView) (p : PlanView) (k : ℕ) : Type 0 where
  pub t1 : d.times.t1min ≤ slice_index p.t1 k
  pub t1_t2 : slice_index p.t1 k ≤ p.t2
  pub t2_t3 : p.t2 ≤ p.t3
  pub t3 : 1 ≤ p.t3
  pub t3_end : p.t3 ≤ cycle
  pub t4 : p.t4 + d.times.t4min ≤ cycle
  pub receive : rate * slice_index p.t1 k + wire_bits (1 + at_len d) + rate * d.times.tatmt ≤ rate * p.t2
  pub position : 1 ≤ slice_index p.position k
  pub record_end : slice_index p.position k + record_len d ≤ p.mdt_len + 1
  pub record_some : 4 ≤ record_len d
  pub mdt_len : p.mdt_len ≤ 2047
  pub cycle_end : cycle ≤ 64000

fit_drive : (w : WishesView) (p : PlanView) (k : ℕ) (d : DriveView) → wish w k ≡ wish_of d → HasNumbers w p k → FitDrive w.rate w.cycle d p k
fit_drive w p k d e n = record {
  t1 = low _ _ _ (ap (λ (x : Wish). x.times.t1min) e) n.t1;
  t1_t2 = n.t1_t2;
  t2_t3 = n.t2_t3;
  t3 = n.t3;
  t3_end = n.t3_end;
  t4 = sum _ _ _ _ (ap (λ (x : Wish). x.times.t4min) e) n.t4;
  receive = wait _ _ _ _ _ _ (ap (λ (x : Wish). wire_bits (x.at_len + 1)) e ∙ ap wire_bits (omega arith)) (ap (λ (x : Wish). w.rate * x.times.tatmt) e) n.receive;
  position = n.position;
  record_end = sum _ _ _ _ (ap (λ (x : Wish). x.record_len) e) n.record_end;
  record_some = high _ _ _ (ap (λ (x : Wish). x.record_len) e) n.record_some;
  mdt_len = n.mdt_len;
  cycle_end = n.cycle;
}
  where
    low : (a b c : ℕ) → a ≡ b → a ≤ c → b ≤ c
    low a b c e h = omega arith

    high : (a b c : ℕ) → a ≡ b → c ≤ a → c ≤ b
    high a b c e h = omega arith

    sum : (a b c x : ℕ) → a ≡ b → x + a ≤ c → x + b ≤ c
    sum a b c x e h = omega arith

    wait : (x a b m n c : ℕ) → a ≡ b → m ≡ n → x + a + m ≤ c → x + b + n ≤ c
    wait x a b m n c e f h = omega arith

pub fit_in_ring : (r : RingView) (p : PlanView) (k : ℕ) (d : DriveView) → IsValid (wishes_of r) → Fits (wishes_of r) p → slice_get r.drives k ≡ Some d → FitDrive r.rate r.cycle d p k
unfolding wishes_of
fit_in_ring r p k d valid fits at = fit_drive (wishes_of r) p k d (wish_is r k d at) (has_numbers (wishes_of r) p k valid fits (within r k d at))

keeps_1 : (cycle control : ℕ) → 1 ≤ cycle → is_control cycle control ≡ true → ((cycle == 0) || ((control == 0) || not (control % cycle == 0))) ≡ false
unfolding is_control
keeps_1 cycle control some ok =
    let (low, whole) = and_parts (nat_le 1 control) (control % cycle == 0) ok in
    let low' : 1 ≤ control = leb-true 1 control low in
    or_from _ _ (ne_eqb cycle 0 (λ e. omega arith)) (or_from _ _ (ne_eqb control 0 (λ e. omega arith)) (rw whole refl))

pub small_control : (control : ℕ) → nat_le control most_cycle ≡ true → control < 65536
small_control control high = let most : control ≤ 64000 = leb-true _ _ high in omega arith

none_named : (a b c d e f g h i j k : Bool) → a ≡ false → b ≡ false → c ≡ false → d ≡ false → e ≡ false → f ≡ false → g ≡ false → h ≡ false → i ≡ false → j ≡ false → k ≡ false
    → listed_if 1 a (listed_if 2 b (listed_if 6 c (listed_if 7 d (listed_if 8 e (listed_if 9 f (listed_if 10 g (listed_if 15 h (listed_if 16 i (listed_if 24 j (listed_if 89 k [])))))))))) ≡ []
none_named a b c d e f g h i j k ea eb ec ed ee ef eg eh ei ej ek = rw (ea, eb, ec, ed, ee, ef, eg, eh, ei, ej, ek) refl

cycle_some : (cycle : ℕ) → is_cycle cycle ≡ true → 1 ≤ cycle
unfolding is_cycle
cycle_some zero ok = cc
cycle_some (suc n) ok = omega arith

pub plan_passes_check : PlanPassesCheck
unfolding unfit_for_phase_3 breaks_1 breaks_2 breaks_6 breaks_7 breaks_8 breaks_9 breaks_10 breaks_15 breaks_89
plan_passes_check r p k d blocks ok valid fits at is holds =
    let rules = ring_drive r k d ok at in
    let cycles = ring_cycles r ok in
    let n = fit_in_ring r p k d valid fits at in
    let declared = declares_times d blocks rules.blocks is in
    let small = rules.times in
    let long = are_as_long d blocks rules.blocks is in
    let a = n.t1_t2 in
    let b = n.t2_t3 in
    let c = n.t3_end in
    let e = n.cycle_end in
    let f = n.t4 in
    let g = n.record_end in
    let l = n.record_some in
    let m = n.mdt_len in
    let q = n.position in
    let h_16 = holds.1.1.1.1.1.1.1.1.0 in
    let h_24 = holds.1.1.1.1.1.1.1.1.1.0 in
    let n_1 = number_is blocks 1 r.control holds.0 (small_control r.control cycles.2) in
    let n_2 = number_is blocks 2 r.cycle holds.1.0 (omega arith) in
    let n_6 = number_is blocks 6 (slice_index p.t1 k) holds.1.1.0 (omega arith) in
    let n_7 = number_is blocks 7 p.t4 holds.1.1.1.0 (omega arith) in
    let n_8 = number_is blocks 8 p.t3 holds.1.1.1.1.0 (omega arith) in
    let n_9 = number_is blocks 9 (slice_index p.position k) holds.1.1.1.1.1.0 (omega arith) in
    let n_10 = number_is blocks 10 p.mdt_len holds.1.1.1.1.1.1.0 (omega arith) in
    let n_15 = number_is blocks 15 7 holds.1.1.1.1.1.1.1.0 (omega arith) in
    let n_89 = number_is blocks 89 p.t2 holds.1.1.1.1.1.1.1.1.1.1.0 (omega arith) in
    let n_3 = number_is blocks 3 d.times.t1min declared.t1min (omega (arith, small.t1min)) in
    none_named _ _ _ _ _ _ _ _ _ _ _
    (rw (n_1, n_2) (keeps_1 r.cycle r.control (cycle_some r.cycle cycles.0) cycles.1))
    (rw (n_2, cycles.0) refl)
    (rw (n_6, n_3) (le-ltb _ _ n.t1))
    (rw (n_7, number_is blocks 5 d.times.t4min declared.t4min (omega (arith, small.t4min)), n_2) (le-ltb _ _ n.t4))
    (rw (n_8, n_2) (or_from _ _ (ne_eqb p.t3 0 (λ z. omega (arith, n.t3, z))) (le-ltb _ _ n.t3_end)))
    (rw (n_9, long.1 h_24, n_10) (or_from _ _ (ne_eqb (slice_index p.position k) 0 (λ z. omega (arith, q, z))) (le-ltb _ _ (omega arith))))
    (rw n_10 (le-ltb p.mdt_len 4 (omega arith)))
    (rw n_15 refl)
    (list_fits d blocks 16 d.at rules.blocks is h_16 rules.at)
    (list_fits d blocks 24 d.mdt rules.blocks is h_24 rules.mdt)
    (rw (n_89, n_6, long.0 h_16, number_is blocks 4 d.times.tatmt declared.tatmt (omega (arith, small.tatmt))) (le-ltb _ _ n.receive))
