-- The slots of a cycle are apart.
use Rattle.sercos_law_run.proofs.Words.{◌≡◌, ℕ, suc, ◌+◌, ◌-◌, ◌*◌, ◌<◌, ◌≤◌, ◌⊎◌, inl, inr, max, List, map, length, take, drop, slice_index, slice_index_or, refl, sym, ap, ◌∙◌, arith, Option, Some, concat, length-map, mul-le-mul_left, Wish, WishesView, PlanView, times, sent, same_slave, at_bits, mdt_bits, bits_of, greatest_tmtsy, positions, Fits, IsValid, Among, among_greatest, AtSlot, MdtSlot, Held, mdt_content, slot_record, record_start, HasPause, HasRecovered, IsAtItsTime, IsServed, held_of, IsSentBefore, AreOnPlan, PlanKeepsApart, cases_Bool, record_bytes, plan_listed}
use Rattle.sercos_law_run.proofs.Slots.Spacing.{IsSpaced, AreSpaced, spaced, either_first, after_mst, before_mdt, kept_at}
use Rattle.sercos_law_run.proofs.Slots.Places.{place_from, place_within, places_apart, record_place_is, length_records, length_record, record_there}

-- An AT starts at the plan's time, and its drive has a turn in the order.
record IsPlanned (w : WishesView) (p : PlanView) (s : AtSlot) : Type 0 where
  start : s.start ≡ bits_of w p.t1 s.drive
  bits : s.bits ≤ at_bits w s.drive
  turn : Among s.drive (sent w)

planned : (w : WishesView) (p : PlanView) (held : ℕ → Option Held) (s : AtSlot) → IsValid w
    → ((k : ℕ) (h : Held) → k < length w.drives → held k ≡ Some h → h ≡ held_of p k) → s.drive < length w.drives → IsAtItsTime w held s → s.bits ≤ at_bits w s.drive → IsPlanned w p s
planned w p held s valid holds within start bits = record {
  start = start.2 ∙ ap (λ (h : Held). w.rate * h.t1) (holds s.drive start.0 within start.1);
  bits = bits;
  turn = plan_listed w valid s.drive within;
}

-- an AT that is sent before another is spaced from it
in_turn : (w : WishesView) (p : PlanView) (s t : AtSlot) → AreSpaced w (bits_of w p.t1) (sent w) → IsPlanned w p s → IsPlanned w p t → IsSentBefore s t
    → IsSpaced w (bits_of w p.t1) s.drive t.drive
in_turn w p s t sp hs ht before = elim (either_first w (bits_of w p.t1) (sent w) sp s.drive t.drive hs.turn ht.turn (λ same. not_same same before)) [
  | inl found ↦ found
  | inr other ↦ absurd (not_late s.start t.start (bits_of w p.t1 s.drive) (bits_of w p.t1 t.drive) (at_bits w t.drive) s.drive t.drive hs.start ht.start other.after before (omega arith))
]
  where
    not_same : s.drive ≡ t.drive → IsSentBefore s t → ⊥
    not_same same (inl less) =
        let e : bits_of w p.t1 s.drive ≡ bits_of w p.t1 t.drive = ap (bits_of w p.t1) same in
        let es = hs.start in
        let et = ht.start in omega arith
    not_same same (inr (e, less)) = omega arith

    not_late : (a b a' b' n j k : ℕ) → a ≡ a' → b ≡ b' → b' + n ≤ a' → (a < b) ⊎ ((a ≡ b) × (j < k)) → 0 < n → ⊥
    not_late a b a' b' n j k e f h (inl less) some = omega arith
    not_late a b a' b' n j k e f h (inr both) some = let same = both.0 in omega arith

ends_by : (a n a' n' g x x' : ℕ) → a ≡ a' → n ≤ n' → x ≡ x' → a' + (n' + g) ≤ x' → (a + n) + g ≤ x
ends_by a n a' n' g x x' e less f h = omega arith

le_pause : (w : WishesView) (p : PlanView) (s t : AtSlot) → IsPlanned w p s → IsPlanned w p t → IsSpaced w (bits_of w p.t1) s.drive t.drive → HasPause w s t
le_pause w p s t hs ht sp = elim (cases_Bool (same_slave w s.drive t.drive)) [
  | inl e ↦ rw e (none _ _ _ _ _ _ hs.start ht.start hs.bits sp.after)
  | inr e ↦ rw e (ends_by _ _ _ _ _ _ _ hs.start hs.bits ht.start (sp.gap e))
]
  where
    none : (a n b a' n' b' : ℕ) → a ≡ a' → b ≡ b' → n ≤ n' → a' + n' ≤ b' → (a + n) + 0 ≤ b
    none a n b a' n' b' e f less h = omega arith

le_recovered : (w : WishesView) (p : PlanView) (s t : AtSlot) → IsPlanned w p s → IsPlanned w p t → IsSpaced w (bits_of w p.t1) s.drive t.drive → HasRecovered w s t
le_recovered w p s t hs ht sp same = ends_by _ _ _ _ _ _ _ hs.start hs.bits ht.start (sp.recovered same)

le_start : (x a a' : ℕ) → a ≡ a' → x ≤ a' → x ≤ a
le_start x a a' e h = omega arith

-- At the place of its data record a drive reads the record.
count : (records : List (List ℕ)) (ds : List Wish) → map length records ≡ map (λ (d : Wish). d.record_len) ds → length records ≡ length ds
count records ds same = sym (length-map records length) ∙ ap length same ∙ length-map ds (λ d. d.record_len)

there_at : (m : MdtSlot) (k place len : ℕ) → place ≡ record_start m k → length (slot_record m k) ≡ len → k < length m.records → take len (drop place (mdt_content m)) ≡ slot_record m k
there_at m k place len e f within =
    let next : 1 + length (concat (take k m.records)) ≡ suc (length (concat (take k m.records))) = omega arith in
    rw (e, next, ← f) (record_there m.records k within)

-- what a drive needs of the cycle is kept
served : (w : WishesView) (p : PlanView) (held : ℕ → Option Held) (ats : List AtSlot) (mdt : MdtSlot) → IsValid w → Fits w p → AreOnPlan w p held ats mdt
    → (k : ℕ) (h : Held) → k < length w.drives → held k ≡ Some h → IsServed w mdt k h
served w p held ats mdt valid fits on k h within is =
    let same : h ≡ held_of p k = on.holds k h within is in
    let turn = plan_listed w valid k within in
    let seven : w.rate * p.t2 + (mdt_bits w + w.rate * (times w k).tmtsg) ≤ w.rate * p.t3 =
    kept_at _ (λ k. w.rate * p.t2 + (mdt_bits w + w.rate * (times w k).tmtsg)) (λ k. w.rate * p.t3) (sent w) (λ k before. refl) fits.rule_7 k turn in
    let ten : p.t4 + (times w k).t4min ≤ w.cycle = kept_at _ (λ k. p.t4 + (times w k).t4min) (λ k. w.cycle) (sent w) (λ k before. refl) fits.rule_10 k turn in
    let place : (j : ℕ) → j < length w.drives → record_start mdt j ≡ slice_index (positions 1 w.drives) j = λ j in'. record_place_is 1 mdt.records w.drives j on.records in' in
    let position : h.position ≡ slice_index (positions 1 w.drives) k = ap (λ (g : Held). g.position) same ∙ ap (λ (ps : List ℕ). slice_index ps k) fits.rule_12.0 in
    let first = place_from 1 w.drives k within in
    let last = place_within 1 w.drives k within in
    let len : h.mdt_len ≡ record_bytes w.drives = ap (λ (g : Held). g.mdt_len) same ∙ fits.rule_12.1 in
    record {
      t2 = on.mdt_start ∙ ap (λ (g : Held). w.rate * g.t2) (sym same);
      t3 = ends_by _ _ _ _ _ _ _ on.mdt_start on.mdt_bits (ap (λ (g : Held). w.rate * g.t3) same) seven;
      t3_in_cycle = at_most _ _ _ (ap (λ (g : Held). g.t3) same) fits.rule_8;
      t4 = sum_at_most _ _ _ _ (ap (λ (g : Held). g.t4) same) ten;
      position = position ∙ sym (place k within);
      there = there_at mdt k h.position _ (position ∙ sym (place k within)) (length_record mdt.records w.drives k on.records within) (omega (arith, count mdt.records w.drives on.records, within));
      mdt_len = omega (arith, len, length_records mdt.records w.drives on.records);
      inside = (omega arith, omega arith);
      apart = λ j in' other. rw (position, place j in') (places_apart 1 w.drives j k in' within other);
    }
  where
    at_most : (a b c : ℕ) → a ≡ b → b ≤ c → a ≤ c
    at_most a b c e h = omega arith

    sum_at_most : (a b m c : ℕ) → a ≡ b → b + m ≤ c → a + m ≤ c
    sum_at_most a b m c e h = omega arith

pub keeps_apart : PlanKeepsApart
keeps_apart w p held ats mdt valid fits on =
    let b = bits_of w p.t1 in
    let sp : AreSpaced w (bits_of w p.t1) (sent w) = spaced w (bits_of w p.t1) (sent w) fits.rule_3 fits.rule_4 in
    let ok : (i : ℕ) (d : AtSlot) → i < length ats → IsPlanned w p (slice_index_or ats i d) =
    λ i d in'. planned w p held (slice_index_or ats i d) valid on.holds (on.drives i d in') (on.starts i d in') (on.bits i d in') in
    let pair : (i j : ℕ) (d : AtSlot) → i < j → j < length ats → IsSpaced w (bits_of w p.t1) (slice_index_or ats i d).drive (slice_index_or ats j d).drive =
    λ i j d less in'. in_turn w p _ _ sp (ok i d (omega arith)) (ok j d in') (on.in_order i j d less in') in
    record {
      of_ring = on.drives;
      at_times = on.starts;
      ready = λ i d in'. (let s = ok i d in' in le_start _ _ _ s.start (kept_at _ (λ k. w.rate * (times w k).t1min) (bits_of w p.t1) (sent w) (λ k before. refl) fits.rule_1 _ s.turn));
      after_mst = (
        λ i d in'. (let s = ok i d in' in le_start _ _ _ s.start (after_mst w (bits_of w p.t1) (sent w) fits.rule_2 sp _ s.turn)),
        gap_before,
      );
      pauses = λ i j d less in'. le_pause w p _ _ (ok i d (omega arith)) (ok j d in') (pair i j d less in');
      before_mdt = λ i d in'. (let s = ok i d in' in ends_by _ _ _ _ _ _ _ s.start s.bits on.mdt_start (before_mdt w (bits_of w p.t1) (sent w) (w.rate * p.t2) fits.rule_5 sp _ s.turn));
      recovered = λ i j d less in'. le_recovered w p _ _ (ok i d (omega arith)) (ok j d in') (pair i j d less in');
      receive = λ i d in'. (let s = ok i d in' in ends_by _ _ _ _ _ _ _ s.start s.bits on.mdt_start (kept_at _ (λ k. bits_of w p.t1 k + (at_bits w k + w.rate * (times w k).tatmt)) (λ k. w.rate * p.t2) (sent w) (λ k before. refl) fits.rule_6 _ s.turn));
      records = on.records;
      served = served w p held ats mdt valid fits on;
      room = room_for _ _ _ _ _ _ _ _ on.mdt_start on.mdt_bits (mul-le-mul_left w.rate (omega arith)) fits.rule_9 (omega arith);
      room_of_each = λ k in'. room_for _ _ _ _ _ _ _ _ on.mdt_start on.mdt_bits
          (mul-le-mul_left w.rate (right w.gap (greatest_tmtsy w) _ (among_greatest (λ k. (times w k).tmtsy) (sent w) k (plan_listed w valid k in')))) fits.rule_9 (omega arith);
    }
  where
    right : (a b c : ℕ) → c ≤ b → c ≤ max a b
    right a b c h = omega arith

    room_for : (a n a' n' g most wire end : ℕ) → a ≡ a' → n ≤ n' → g ≤ most → a' + (n' + most) ≤ end - wire → 0 < n' → ((a + n) + g) + wire ≤ end
    room_for a n a' n' g most wire end e less h fits some = omega arith

    -- the ring has a drive, and between the end of its AT and T2 is the gap
    gap_before : w.rate * w.gap ≤ mdt.start
    gap_before =
        let some = valid.drives.some in
        let first = before_mdt w (bits_of w p.t1) (sent w) (w.rate * p.t2) fits.rule_5 (spaced w (bits_of w p.t1) (sent w) fits.rule_3 fits.rule_4) 0 (plan_listed w valid 0 (omega arith)) in
        (omega arith)
