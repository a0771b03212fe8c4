-- What the ring keeps tells what is looked back on, and what it begins.
use Rattle.sercos_master.proofs.Keeping.{cases_Option}
use Rattle.sercos_master.proofs.Words.{cases_Bool, cases_eq, false≢true, inl, inr, ◌≡◌, ℕ, zero, suc, ◌+◌, ◌<◌, ◌≤◌, ◌==◌, Bool, true, false, List, [], ◌∷◌, Option, Some, None, length, ap, subst, refl, sym, ◌∙◌, arith, if◌then◌else◌, ◌%◌, ◌^◌, is_some, is_none, min, unwrap_or, nat_le, nat_lt, slice_index_or, option_map, not, ◌&&◌, ◌||◌, position, option_or, set, length-set, nat_tests, EndCycle, cycles_open, age_of, PlanView, record_bytes, planned, Stop, Known, MemberView, member, wishes_given, last_long_stop, is_read, is_checked, is_ready, reads_count, all_read, is_plan_due, with_due_plan, planned_by, with_plan, Past, Turn, first_from, first_place, outcomes, is_idle, is_identified, in_turn, begins, is_done, is_at_limit, trouble, first_trouble, first_trouble_from, with_stop, new_epoch, still_waiting, after_end, next_phase, goes_on, whole_row, addressed_before, has_lost_mst, fall_of, count_addressed, next_task, begun, has_lost_at, is_place, of_phase, Seen, SeatView, SeatStandsFor, forgotten, ended_in, cycles_kept, has_read, with_begun, begun_task, SeatsStandFor, CoreView, CoreStandsFor, seen_at, waited_with, waited_for, waited_row, has_missed, queue_same, and_left, and-false, eqb-true}
use Rattle.std.proofs.lemmas.Bool.{and_right, cond-false}
use Rattle.sercos_trace.specs.declared.events.Fall.TheVariants as fall
use Rattle.sercos_master.proofs.Keeping.{first_found}
pub use Rattle.sercos_master.proofs.Keeping.{none_of as no_stop}
use Rattle.sercos_master.proofs.Places.{core_of, first_seat, one_seat, with_seats, same_place, other_place}
use Rattle.sercos_master.proofs.Told.{not_yet}
use Rattle.sercos_master.proofs.Wishes.{none_is}

read_same : (r done l : ℕ) → r ≤ 38 → done ≡ min l 100 → nat_le r done ≡ nat_le r l
read_same r done l few is = elim (cases_Bool (nat_le r l)) [
  | inl e ↦ let f : nat_le r done ≡ true = grind (arith, nat_tests, e, is, few) in f ∙ sym e
  | inr e ↦ let f : nat_le r done ≡ false = grind (arith, nat_tests, e, is, few) in f ∙ sym e
]

-- a test of each seat finds the place that the like test finds
pub found : (v : CoreView) (s : Known) (p : Past) (test : SeatView → Bool) (like : ℕ → Bool) → CoreStandsFor v s p →
    ((i : ℕ) (seat : SeatView) → SeatStandsFor seat (member s i) (seen_at p i) → test seat ≡ like i) → position test v.seats ≡ first_place s like
found v s p test like c same =
    first_seat v.seats test like (λ i seat below. same i (slice_index_or v.seats i seat) (c.seats i seat below))
    ∙ ap (λ n. first_from 0 n like) c.seats_count

pub unread : (v : CoreView) (s : Known) (p : Past) → CoreStandsFor v s p → position (λ seat. not (has_read seat)) v.seats ≡ first_place s (λ k. not (is_read (member s k) (outcomes p k)))
unread v s p c = found v s p (λ seat. not (has_read seat)) (λ k. not (is_read (member s k) (outcomes p k))) c
    (λ i seat t. ap not (ap (λ d. nat_le (reads_count d) seat.done) t.member_is ∙ read_same (reads_count (member s i)) seat.done (length (outcomes p i)) t.few t.done_is))

pub unchecked : (v : CoreView) (s : Known) (p : Past) → CoreStandsFor v s p → position (λ seat. not seat.checked) v.seats ≡ first_place s (λ k. not (is_checked (member s k) (outcomes p k)))
unchecked v s p c = found v s p (λ seat. not seat.checked) (λ k. not (is_checked (member s k) (outcomes p k))) c (λ i seat t. ap not t.checked_is)

pub unready : (v : CoreView) (s : Known) (p : Past) → CoreStandsFor v s p → position (λ seat. not seat.ready) v.seats ≡ first_place s (λ k. not (is_ready (member s k) (outcomes p k)))
unready v s p c = found v s p (λ seat. not seat.ready) (λ k. not (is_ready (member s k) (outcomes p k))) c (λ i seat t. ap not t.ready_is)

pub unidentified : (v : CoreView) (s : Known) (p : Past) → CoreStandsFor v s p → position (λ seat. not seat.identified) v.seats ≡ first_place s (λ k. not (is_identified p k))
unidentified v s p c = found v s p (λ seat. not seat.identified) (λ k. not (is_identified p k)) c (λ i seat t. ap not t.identified_is)

missed_twice : (k : ℕ) (t : Turn) (turns : List Turn) → (has_missed k turns && not (t.heard k)) ≡ has_lost_at k (t ∷ turns)
missed_twice k t [] = refl
missed_twice k t (before ∷ turns) = by (nat_le 3 before.phase) (t.heard k) (before.heard k)
  where
    by : (a b c : Bool) → ((a && not c) && not b) ≡ (a && (not b && not c))
    by true true true = refl
    by true true false = refl
    by true false true = refl
    by true false false = refl
    by false b c = refl

pub lost : (v : CoreView) (s : Known) (p : Past) → CoreStandsFor v s p → position (λ seat. seat.missed && not seat.heard) v.seats ≡ first_place s (λ k. has_lost_at k (p.now ∷ p.turns))
lost v s p c = found v s p (λ seat. seat.missed && not seat.heard) (λ k. has_lost_at k (p.now ∷ p.turns)) c
    (λ i seat t. rw (t.missed_is, t.heard_is) (missed_twice i p.now p.turns))

-- whose turn it is
pub turn : (first : Option ℕ) (second : Option ℕ) (k : ℕ) → first ≡ Some k → option_or first second ≡ Some k
turn first second k e = rw e refl

pub no_turn : (first : Option ℕ) (second : Option ℕ) → first ≡ None → option_or first second ≡ second
no_turn first second e = rw e refl

-- in phase 2 only the drive whose turn it is begins a task
begins_there : (s : Known) (p : Past) (k : ℕ) → p.now.phase ≡ 2 → p.stop ≡ None → in_turn s p ≡ Some k →
    begins s p k ≡ (if is_idle p k then of_phase 2 (next_task s p k) else None)
begins_there s p k two no_stop e = elim (cases_Bool (is_idle p k)) [
  | inl f ↦ rw (no_stop, f, two, e, same_place k) refl
  | inr f ↦ rw (no_stop, f) refl
]

begins_elsewhere : (s : Known) (p : Past) (k i : ℕ) → p.now.phase ≡ 2 → p.stop ≡ None → in_turn s p ≡ Some k → (i ≡ k → ⊥) → begins s p i ≡ None
begins_elsewhere s p k i two no_stop e n = elim (cases_Bool (is_idle p i)) [
  | inl f ↦ rw (no_stop, f, two, e, other_place i k n) refl
  | inr f ↦ rw (no_stop, f) refl
]

seen_begun : (s : Known) (p : Past) (k : ℕ) → seen_at (begun s p) k ≡ with_begun (begins s p k) (seen_at p k)
seen_begun s p k = elim (cases_Option (begins s p k)) [ inl none ↦ rw none | inr (t, some) ↦ rw some ]

pub begun_at : (v : CoreView) (s : Known) (p : Past) (k : ℕ) (w : SeatView) → CoreStandsFor v s p → k < length v.seats → p.now.phase ≡ 2 → p.stop ≡ None → in_turn s p ≡ Some k →
    SeatStandsFor w (member s k) (with_begun (if is_idle p k then of_phase 2 (next_task s p k) else None) (seen_at p k)) →
    CoreStandsFor (record v { seats = set v.seats k w }) s (begun s p)
begun_at v s p k w c within two no_stop e here = with_seats v (set v.seats k w) v.addressed s p (begun s p) c (record { cycle_is = refl; turns_is = refl; phase_is = refl; whole_is = refl; plans_is = refl; plan_is = refl; stop_is = refl; told_is = refl }) c.addressed_is (length-set v.seats k w)
    (one_seat v.seats s (seen_at p) (seen_at (begun s p)) k w within c.seats
    (λ i n. seen_begun s p i ∙ ap (λ t. with_begun t (seen_at p i)) (begins_elsewhere s p k i two no_stop e n))
    (rw (seen_begun s p k, begins_there s p k two no_stop e) here))

-- what each phase waits for
pub done_1 : (s : Known) (p : Past) → p.now.phase ≡ 1 → is_done s p ≡ is_none (first_place s (λ k. not (is_identified p k)))
done_1 s p e = rw e refl

pub done_2 : (s : Known) (p : Past) → p.now.phase ≡ 2 → is_done s p ≡ is_none (first_place s (λ k. not (is_checked (member s k) (outcomes p k))))
done_2 s p e = rw e refl

pub done_3 : (s : Known) (p : Past) → p.now.phase ≡ 3 → is_done s p ≡ is_none (first_place s (λ k. not (is_ready (member s k) (outcomes p k))))
done_3 s p e = rw e refl

count_kept : (v : SeatView) (d : MemberView) (x : Seen) → SeatStandsFor v d x → cycles_kept v ≡ cycles_open x.calls
count_kept v d x t = ap (λ a. unwrap_or a 0) t.channel_is.age_is ∙ capped (age_of x.calls)
  where
    capped : (a : Option ℕ) → unwrap_or (option_map (λ age. min age 64) a) 0 ≡ min (unwrap_or a 0) 64
    capped None = refl
    capped (Some n) = refl

pub stuck : (v : CoreView) (s : Known) (p : Past) → CoreStandsFor v s p → (p.now.phase == 1) ≡ false →
    position (λ seat. nat_le 64 (cycles_kept seat)) v.seats ≡ first_place s (is_at_limit p)
stuck v s p c e = found v s p (λ seat. nat_le 64 (cycles_kept seat)) (is_at_limit p) c
    (λ i seat t. ap (nat_le 64) (count_kept seat (member s i) (seen_at p i) t)
    ∙ sym (rw e refl))

pub none_from : (n k : ℕ) (test : ℕ → Bool) → ((j : ℕ) → k ≤ j → j < k + n → test j ≡ false) → first_from k n test ≡ None
none_from zero k test none = refl
none_from (suc n) k test none = rw (none k (omega arith) (omega arith)) (none_from n (k + 1) test (λ j low high. none j (omega (arith, low)) (omega (arith, high))))

only_false : (test : ℕ → Bool) (i j : ℕ) → (test j ≡ true → j ≡ i) → (j ≡ i → ⊥) → test j ≡ false
only_false test i j only n = elim (cases_Bool (test j)) [ inl e ↦ absurd (n (only e)) | inr e ↦ e ]

first_only : (n k i : ℕ) (test : ℕ → Bool) → ((j : ℕ) → test j ≡ true → j ≡ i) → k ≤ i → i < k + n → first_from k n test ≡ (if test i then Some i else None)
first_only zero k i test only low high = absurd (omega (arith, low, high))
first_only (suc n) k i test only low high = elim (cases_eq k i) [
  | inl same ↦ elim (cases_Bool (test i)) [
    | inl e ↦ let h : test k ≡ true = rw same e in rw (h, e, same) refl
    | inr e ↦ let h : test k ≡ false = rw same e in rw (h, e) (none_from n (k + 1) test (λ j later high. only_false test i j (only j) (λ f. omega (arith, same, later, f))))
  ]
  | inr differ ↦ rw (only_false test i k (only k) differ) (first_only n (k + 1) i test only (omega (arith, low, differ)) (omega (arith, high)))
]

-- only the drive that the MDT is to can be at the limit in phase 1
-- in phase 1 it is the drive that the MDT is to, if it was to it in 64 cycles before
pub waited : (s : Known) (p : Past) (i : ℕ) → p.now.phase ≡ 1 → p.now.addressed ≡ Some i → i < length s.drives →
    first_place s (is_at_limit p) ≡ (if nat_le 64 (min (count_addressed i p.turns) 64) then Some i else None)
waited s p i one to within =
    first_only (length s.drives) 0 i (is_at_limit p) only (omega arith) (omega (arith, within)) ∙ (ap (λ b. if b then Some i else None) here)
  where
    only : (j : ℕ) → is_at_limit p j ≡ true → j ≡ i
    only j e = eqb-true j i (and_left (j == i) (nat_le 64 (count_addressed j p.turns)) (rw (one, to) at e))

    enough : nat_le 64 (count_addressed i p.turns) ≡ nat_le 64 (min (count_addressed i p.turns) 64)
    enough = elim (cases_Bool (nat_le 64 (count_addressed i p.turns))) [
      | inl e ↦ let f : nat_le 64 (min (count_addressed i p.turns) 64) ≡ true = grind (arith, nat_tests, e) in e ∙ sym f
      | inr e ↦ let f : nat_le 64 (min (count_addressed i p.turns) 64) ≡ false = grind (arith, nat_tests, e) in e ∙ sym f
    ]

    here : is_at_limit p i ≡ nat_le 64 (min (count_addressed i p.turns) 64)
    here = rw (one, to, same_place i) enough

-- and none where it is to none
pub waits_for_none : (s : Known) (p : Past) → p.now.phase ≡ 1 → p.now.addressed ≡ None → first_place s (is_at_limit p) ≡ None
waits_for_none s p one to = none_from (length s.drives) 0 (is_at_limit p) (λ j low high. rw (one, to) refl)

-- nor where it is to a place that the ring hasn't
pub waits_beyond : (s : Known) (p : Past) (i : ℕ) → p.now.phase ≡ 1 → p.now.addressed ≡ Some i → length s.drives ≤ i → first_place s (is_at_limit p) ≡ None
waits_beyond s p i one to beyond = none_from (length s.drives) 0 (is_at_limit p) (λ j low h. only_false (is_at_limit p) i j
    (λ e. eqb-true j i (and_left (j == i) (nat_le 64 (count_addressed j p.turns)) (rw (one, to) at e))) (λ f. omega (arith, h, f, beyond)))

-- the count for a drive is the one that is kept, where it was the last one
pub count_same : (turns : List Turn) (i : ℕ) → is_place i (addressed_before turns) ≡ true → min (count_addressed i turns) 64 ≡ waited_row turns
count_same [] i e = absurd (false≢true e)
count_same (t ∷ turns) i e = elim (cases_Option t.addressed) [
  | inl f ↦ absurd (false≢true (subst (λ a. is_place i a ≡ true) f e))
  | inr (k, f) ↦ ap (λ n. min (count_addressed n (t ∷ turns)) 64) (eqb-true i k (subst (λ a. is_place i a ≡ true) f e)) ∙
      sym (ap (λ a. waited_for a (t ∷ turns)) f)
]

pub count_other : (turns : List Turn) (i : ℕ) → is_place i (addressed_before turns) ≡ false → count_addressed i turns ≡ 0
count_other [] i e = refl
count_other (t ∷ turns) i e = rw (e, and-false (t.phase == 1)) refl

pub waited_long : (v : CoreView) (s : Known) (p : Past) (i : ℕ) → CoreStandsFor v s p → p.now.phase ≡ 1 → v.addressed ≡ Some i → i < length v.seats → is_place i v.before ≡ true → 64 ≤ v.waited →
    first_place s (is_at_limit p) ≡ Some i
waited_long v s p i c one to within last long =
    let count : v.waited ≡ min (count_addressed i p.turns) 64 = c.waited_is ∙ sym (count_same p.turns i (rw (← c.before_is) last)) in
    let e : nat_le 64 (min (count_addressed i p.turns) 64) ≡ true = grind (arith, nat_tests, count, long) in
    waited s p i one (sym c.addressed_is ∙ to) (rw (← c.seats_count) within) ∙ rw e refl

pub waited_short : (v : CoreView) (s : Known) (p : Past) (i : ℕ) → CoreStandsFor v s p → p.now.phase ≡ 1 → v.addressed ≡ Some i → i < length v.seats → is_place i v.before ≡ true → v.waited < 64 →
    first_place s (is_at_limit p) ≡ None
waited_short v s p i c one to within last short =
    let count : v.waited ≡ min (count_addressed i p.turns) 64 = c.waited_is ∙ sym (count_same p.turns i (rw (← c.before_is) last)) in
    let e : nat_le 64 (min (count_addressed i p.turns) 64) ≡ false = grind (arith, nat_tests, count, short) in
    waited s p i one (sym c.addressed_is ∙ to) (rw (← c.seats_count) within) ∙ rw e refl

pub waited_new : (v : CoreView) (s : Known) (p : Past) (i : ℕ) → CoreStandsFor v s p → p.now.phase ≡ 1 → v.addressed ≡ Some i → i < length v.seats → is_place i v.before ≡ false →
    first_place s (is_at_limit p) ≡ None
waited_new v s p i c one to within new =
    waited s p i one (sym c.addressed_is ∙ to) (rw (← c.seats_count) within) ∙ rw (count_other p.turns i (rw (← c.before_is) new)) refl

-- the fall, by what was found
pub fall_2 : (s : Known) (p : Past) (k : ℕ) → has_lost_mst (p.now ∷ p.turns) ≡ false → first_place s (λ i. has_lost_at i (p.now ∷ p.turns)) ≡ Some k →
    fall_of s p ≡ Some (fall.AtLost (member s k).address)
fall_2 s p k e f = rw (e, f) refl

pub fall_3 : (s : Known) (p : Past) (k : ℕ) → has_lost_mst (p.now ∷ p.turns) ≡ false → first_place s (λ i. has_lost_at i (p.now ∷ p.turns)) ≡ None →
    first_place s (is_at_limit p) ≡ Some k → fall_of s p ≡ Some (fall.StepLimit (member s k).address)
fall_3 s p k e f g = rw (e, f, g) refl

pub no_fall : (s : Known) (p : Past) → has_lost_mst (p.now ∷ p.turns) ≡ false → first_place s (λ i. has_lost_at i (p.now ∷ p.turns)) ≡ None →
    first_place s (is_at_limit p) ≡ None → fall_of s p ≡ None
no_fall s p e f g = rw (e, f, g) refl

same_test : (i k : ℕ) → (k ≡ i → ⊥) → nat_lt k (i + 1) ≡ nat_lt k i
same_test i k other = elim (cases_Bool (nat_lt k i)) [
  | inl e ↦ let f : nat_lt k (i + 1) ≡ true = grind (arith, nat_tests, e) in f ∙ sym e
  | inr e ↦ let f : nat_lt k (i + 1) ≡ false = grind (arith, nat_tests, e, other) in f ∙ sym e
]

-- what is kept after the end of a cycle
seen_ended : (p : Past) (phase k : ℕ) → seen_at (goes_on phase p) k ≡ ended_in p.now.phase (seen_at p k)
seen_ended p phase k = ap (λ b. record { calls = EndCycle ∷ p.calls k; tasks = p.tasks k; heard = false; missed = nat_le 3 p.now.phase && not (p.now.heard k); identified = b; report = None; stopped = is_some p.stop; waiting = p.waiting k }) (nothing_new (phase == 1) (is_identified p k))
  where
    nothing_new : (a b : Bool) → ((a && false) || b) ≡ b
    nothing_new true b = refl
    nothing_new false b = refl

row_more : (whole : Bool) (turns : List Turn) (t : Turn) → t.whole ≡ whole → (if whole then min (min (whole_row turns) 10 + 1) 10 else 0) ≡ min (whole_row (t ∷ turns)) 10
row_more true turns t e = rw e (omega arith)
row_more false turns t e = rw e refl

waited_more : (p : Past) → waited_with p.now.phase p.now.addressed (addressed_before p.turns) (waited_row p.turns) ≡ waited_row (p.now ∷ p.turns)
waited_more p = by (p.now.phase == 1) p.now.addressed refl refl
  where
    by : (one : Bool) (to : Option ℕ) → (p.now.phase == 1) ≡ one → p.now.addressed ≡ to →
        waited_with p.now.phase p.now.addressed (addressed_before p.turns) (waited_row p.turns) ≡ waited_row (p.now ∷ p.turns)
    by true None e f = rw (e, f) refl
    by false None e f = rw (e, f) refl
    by false (Some k) e f = rw (e, f, e) refl
    by true (Some k) e f = elim (cases_Bool (is_place k (addressed_before p.turns))) [
      | inl same ↦ rw (e, f, same, e, same_place k, ← (count_same p.turns k same)) (omega arith)
      | inr other ↦ rw (e, f, other, e, same_place k, count_other p.turns k other) refl
    ]

pub went_on : (v : CoreView) (seats : List SeatView) (row waited : ℕ) (lost : Bool) (s : Known) (p : Past) (next : ℕ) → CoreStandsFor v s p →
    length seats ≡ length v.seats → SeatsStandFor seats s (λ k. ended_in v.phase (seen_at p k)) →
    row ≡ (if v.whole then min (v.row + 1) 10 else 0) → lost ≡ (nat_le 1 v.phase && not v.whole) → waited ≡ waited_with v.phase v.addressed v.before v.waited →
    CoreStandsFor (record v {
      seats = seats;
      count = (v.count + 1) % 2 ^ 32;
      phase = next;
      whole = false;
      row = row;
      lost = lost;
      addressed = None;
      before = v.addressed;
      waited = waited;
      plans = false;
      stop = None;
    }) s (goes_on next p)
went_on v seats row waited lost s p next c count all row_is lost_is waited_is = core_of c count
    (λ k seat below. rw seen_ended
    (subst (λ n. SeatStandsFor (slice_index_or seats k seat) (member s k) (ended_in n (seen_at p k))) c.phase_is (all k seat below)))
    (rw c.count_is (omega arith)) refl refl (rw (row_is, c.whole_is, c.row_is) (row_more p.now.whole p.turns p.now refl))
    (rw (lost_is, c.phase_is, c.whole_is) refl) refl c.addressed_is
    (rw (waited_is, c.phase_is, c.addressed_is, c.before_is, c.waited_is) (waited_more p)) c.plan_is refl c.stopped_is refl

-- the same for any change that each seat makes in its turn
module _ (becomes : ℕ → Seen → Seen) where
  pub one_changed : (seats : List SeatView) (s : Known) (seen : ℕ → Seen) (i : ℕ) (v w : SeatView) → i < length seats → v ≡ slice_index_or seats i v →
      (SeatStandsFor v (member s i) (seen i) → SeatStandsFor w (member s i) (becomes i (seen i))) →
      SeatsStandFor seats s (λ k. if nat_lt k i then becomes k (seen k) else seen k) →
      SeatsStandFor (set seats i w) s (λ k. if nat_lt k (i + 1) then becomes k (seen k) else seen k)
  one_changed seats s seen i v w within is step all =
      let now : nat_lt i (i + 1) ≡ true = grind (arith, nat_tests) in
      one_seat seats s (λ k. if nat_lt k i then becomes k (seen k) else seen k) (λ k. if nat_lt k (i + 1) then becomes k (seen k) else seen k) i w within all
      (λ k other. rw (same_test i k other) refl)
      (subst (λ b. SeatStandsFor w (member s i) (if b then becomes i (seen i) else seen i)) (sym now)
      (step (not_yet becomes seats s seen i v within is all)))

  pub all_changed : (seats : List SeatView) (s : Known) (seen : ℕ → Seen) (n : ℕ) → length seats ≤ n →
      SeatsStandFor seats s (λ k. if nat_lt k n then becomes k (seen k) else seen k) → SeatsStandFor seats s (λ k. becomes k (seen k))
  all_changed seats s seen n over all k v within =
      let below : nat_lt k n ≡ true = grind (arith, nat_tests, within, over) in
      subst (λ b. SeatStandsFor (slice_index_or seats k v) (member s k) (if b then becomes k (seen k) else seen k)) below (all k v within)

  pub none_changed : (seats : List SeatView) (s : Known) (seen : ℕ → Seen) → SeatsStandFor seats s seen → SeatsStandFor seats s (λ k. if nat_lt k 0 then becomes k (seen k) else seen k)
  none_changed seats s seen all k v within =
      let none : nat_lt k 0 ≡ false = grind (arith, nat_tests) in
      subst (λ b. SeatStandsFor (slice_index_or seats k v) (member s k) (if b then becomes k (seen k) else seen k)) (sym none) (all k v within)

-- where an epoch begins
pub epoch_begun : (v : CoreView) (seats : List SeatView) (s : Known) (p : Past) → CoreStandsFor v s p →
    length seats ≡ length v.seats → SeatsStandFor seats s (λ k. forgotten (seen_at p k)) →
    CoreStandsFor (record v {
      seats = seats;
      phase = 0;
      whole = false;
      row = 0;
      lost = false;
      addressed = None;
      before = None;
      waited = 0;
      plan = None;
      plans = false;
      stopped = false;
      stop = None;
    }) s (new_epoch p.cycle (still_waiting p))
epoch_begun v seats s p c count all = core_of c count all c.count_is refl refl (omega arith) refl refl refl refl refl refl refl refl

pub ends_falling : (s : Known) (p : Past) → is_some (fall_of s p) ≡ true → after_end s p ≡ new_epoch (p.cycle + 1) (still_waiting p)
ends_falling s p e = rw e refl

pub ends_going_on : (s : Known) (p : Past) → is_some (fall_of s p) ≡ false → after_end s p ≡ goes_on (next_phase s p) p
ends_going_on s p e = rw e refl

pub begun_all : (v : CoreView) (seats : List SeatView) (s : Known) (p : Past) (phase : ℕ) → CoreStandsFor v s p → p.now.phase ≡ phase → nat_le 3 phase ≡ true → p.stop ≡ None → length seats ≡ length v.seats →
    SeatsStandFor seats s (λ k. with_begun (begun_task phase s p.plan (p.waiting k) k (seen_at p k)) (seen_at p k)) → CoreStandsFor (record v { seats = seats }) s (begun s p)
begun_all v seats s p phase c is late no_stop count all = with_seats v seats v.addressed s p (begun s p) c (record { cycle_is = refl; turns_is = refl; phase_is = refl; whole_is = refl; plans_is = refl; plan_is = refl; stop_is = refl; told_is = refl }) c.addressed_is count
    (λ k seat below. subst (SeatStandsFor (slice_index_or seats k seat) (member s k))
    (sym (seen_begun s p k ∙ ap (λ t. with_begun t (seen_at p k))
    (elim (cases_Bool (is_idle p k)) [ inl f ↦ rw (no_stop, f, is, late) refl | inr f ↦ rw (no_stop, f) refl ]))) (all k seat below))

-- STOPS. The first stop in ring order is that of the first drive that has one.
abbrev at_place : (ℕ → Option Stop) → Option ℕ → Option Stop
at_place trouble None = None
at_place trouble (Some k) = trouble k

one_trouble : (s : Known) (p : Past) (n k : ℕ) (o : Option Stop) → trouble s p k ≡ o →
    first_trouble_from s p (k + 1) n ≡ at_place (trouble s p) (first_from (k + 1) n (λ i. is_some (trouble s p i))) →
    first_trouble_from s p k (suc n) ≡ at_place (trouble s p) (first_from k (suc n) (λ i. is_some (trouble s p i)))
one_trouble s p n k None e rest = rw e rest
one_trouble s p n k (Some x) e rest = rw (e) (sym e)

trouble_from : (s : Known) (p : Past) (n k : ℕ) → first_trouble_from s p k n ≡ at_place (trouble s p) (first_from k n (λ i. is_some (trouble s p i)))
trouble_from s p zero k = refl
trouble_from s p (suc n) k = one_trouble s p n k (trouble s p k) refl (trouble_from s p n (k + 1))

pub troubled : (v : CoreView) (s : Known) (p : Past) → CoreStandsFor v s p → is_some p.stop ≡ false → position (λ seat. is_some seat.trouble) v.seats ≡ first_place s (λ k. is_some (trouble s p k))
troubled v s p c none = found v s p (λ seat. is_some seat.trouble) (λ k. is_some (trouble s p k)) c (λ i seat t. ap is_some (t.trouble_is none))

pub stop_stays : (x : Option Stop) (p : Past) → is_some p.stop ≡ true → with_stop x p ≡ p
stop_stays None p e = refl
stop_stays (Some x) p e = rw e refl

pub no_stop_found : (s : Known) (p : Past) → first_place s (λ k. is_some (trouble s p k)) ≡ None → with_stop (first_trouble s p) p ≡ p
no_stop_found s p e = rw (trouble_from s p (length s.drives) 0, e) refl

-- a seat whose stop was taken stands for what was seen, once there is a stop
stopped_seat : (v w : SeatView) (d : MemberView) (x : Seen) (t : Option Stop) → w ≡ record v { trouble = t } → SeatStandsFor v d x → SeatStandsFor w d (record x { stopped = true })
stopped_seat v w d x t is s = rw is (record {
  member_is = s.member_is;
  few = s.few;
  channel_is = s.channel_is;
  begun_is = s.begun_is;
  done_is = s.done_is;
  given_is = s.given_is;
  checked_is = s.checked_is;
  ready_is = s.ready_is;
  asked_is = s.asked_is;
  number_is = s.number_is;
  trouble_is = λ on. absurd (false≢true (sym on));
  report_is = s.report_is;
  heard_is = s.heard_is;
  missed_is = s.missed_is;
  identified_is = s.identified_is;
  queue = (queue_same v.waiting d x (record x { stopped = true }) s.queue refl refl refl refl);
})

all_stopped : (v : CoreView) (s : Known) (p : Past) → CoreStandsFor v s p → SeatsStandFor v.seats s (λ i. record (seen_at p i) { stopped = true })
all_stopped v s p c i seat below = let w = slice_index_or v.seats i seat in stopped_seat w w (member s i) (seen_at p i) w.trouble refl (c.seats i seat below)

pub stop_found : (v : CoreView) (s : Known) (p : Past) (k : ℕ) (seat w : SeatView) → CoreStandsFor v s p → is_some p.stop ≡ false → k < length v.seats → position (λ seat. is_some seat.trouble) v.seats ≡ Some k →
    seat ≡ slice_index_or v.seats k seat → w ≡ record seat { trouble = None } →
    CoreStandsFor (record v { seats = set v.seats k w; stopped = true; stop = seat.trouble }) s (with_stop (first_trouble s p) p)
stop_found v s p k seat w c none within there is taken =
    let e : first_place s (λ i. is_some (trouble s p i)) ≡ Some k = sym (troubled v s p c none) ∙ there in
    let here : SeatStandsFor seat (member s k) (seen_at p k) = rw is (c.seats k seat within) in
    by (trouble s p k) refl e here (here.trouble_is none) (trouble_from s p (length s.drives) 0 ∙ ap (at_place (trouble s p)) e)
  where
    by : (o : Option Stop) → trouble s p k ≡ o → first_place s (λ i. is_some (trouble s p i)) ≡ Some k → SeatStandsFor seat (member s k) (seen_at p k) → seat.trouble ≡ trouble s p k → first_trouble s p ≡ trouble s p k →
        CoreStandsFor (record v { seats = set v.seats k w; stopped = true; stop = seat.trouble }) s (with_stop (first_trouble s p) p)
    by None e there here stop_is first =
        absurd (false≢true (ap is_some (sym e) ∙ (first_found 0 (length s.drives) k (λ j. is_some (trouble s p j)) there).passes))
    by (Some x) e there here stop_is first = rw (first, e, none) (core_of c (length-set v.seats k w)
        (one_seat v.seats s (λ i. record (seen_at p i) { stopped = true }) (λ i. record (seen_at p i) { stopped = true }) k w within
        (all_stopped v s p c) (λ i n. refl) (stopped_seat seat w (member s k) (seen_at p k) None taken here))
        c.count_is c.phase_is c.whole_is c.row_is c.lost_is c.addressed_is c.before_is c.waited_is c.plan_is c.plans_is refl (stop_is ∙ e))

pub begins_late : (s : Known) (p : Past) (k : ℕ) → p.now.phase ≤ 1 → begins s p k ≡ None
begins_late s p k low =
    let a : nat_le 3 p.now.phase ≡ false = grind (arith, nat_tests, low) in
    let b : (p.now.phase == 2) ≡ false = grind (arith, nat_tests, low) in
    cond-false _ _ None (and_right (is_none p.stop) _ (and_right (is_idle p k) _ (rw (a, b) refl)))

pub not_stopped : (v : CoreView) (s : Known) (p : Past) → CoreStandsFor v s p → v.stopped ≡ false → p.stop ≡ None
not_stopped v s p c e = none_is p.stop (sym c.stopped_is ∙ e)

-- A STOP AND A PLAN
pub stops : (v : CoreView) (s : Known) (p : Past) (x : Stop) → CoreStandsFor v s p → p.stop ≡ None → CoreStandsFor (record v { stopped = true; stop = Some x }) s (with_stop (Some x) p)
stops v s p x c none = rw none (core_of c refl (all_stopped v s p c)
    c.count_is c.phase_is c.whole_is c.row_is c.lost_is c.addressed_is c.before_is c.waited_is c.plan_is c.plans_is refl refl)

pub plans : (v : CoreView) (s : Known) (p : Past) (q : PlanView) → CoreStandsFor v s p → CoreStandsFor (record v { plan = Some q; plans = true }) s (record p { now = record p.now { plans = true }; plan = Some q })
plans v s p q c = core_of c refl c.seats
    c.count_is c.phase_is c.whole_is c.row_is c.lost_is c.addressed_is c.before_is c.waited_is refl refl c.stopped_is c.stop_is

-- the plan, where it is due
pub none_of_some : {A : Type 0} (o : Option A) → is_some o ≡ true → is_none o ≡ false
none_of_some None e = absurd (false≢true e)
none_of_some (Some x) e = refl

pub due_stopped : (s : Known) (p : Past) → is_some p.stop ≡ true → with_due_plan s p ≡ p
due_stopped s p e = cond-false (is_plan_due s p) (planned_by s p) p
    (and_right (p.now.phase == 2) _ (ap (λ b. b && (is_none p.plan && all_read s p)) (none_of_some p.stop e)))

none_of_none : {A : Type 0} (o : Option A) → is_some o ≡ false → is_none o ≡ true
none_of_none None e = refl
none_of_none (Some x) e = absurd (false≢true (sym e))

pub due_unread : (v : CoreView) (s : Known) (p : Past) → CoreStandsFor v s p → is_some (position (λ seat. not (has_read seat)) v.seats) ≡ true → with_due_plan s p ≡ p
due_unread v s p c e = cond-false (is_plan_due s p) (planned_by s p) p
    (and_right (p.now.phase == 2) _ (and_right (is_none p.stop) _ (and_right (is_none p.plan) _
    (none_of_some (first_place s (λ k. not (is_read (member s k) (outcomes p k)))) (rw (unread v s p c) at e)))))

pub due : (v : CoreView) (s : Known) (p : Past) → CoreStandsFor v s p → (p.now.phase == 2) ≡ true → p.stop ≡ None → is_some p.plan ≡ false → is_some (position (λ seat. not (has_read seat)) v.seats) ≡ false →
    with_due_plan s p ≡ planned_by s p
due v s p c two no_stop no_plan read =
    let g : is_none p.plan ≡ true = none_of_none p.plan no_plan in
    rw (two, no_stop, g, none_of_none (first_place s (λ k. not (is_read (member s k) (outcomes p k)))) (rw (unread v s p c) at read)) refl

pub planned_well : (s : Known) (p : Past) → nat_le (record_bytes (wishes_given s (outcomes p)).drives) 2047 ≡ true → planned_by s p ≡ with_plan (planned (wishes_given s (outcomes p))) p
planned_well s p e = rw e refl

pub planned_badly : (s : Known) (p : Past) → nat_le (record_bytes (wishes_given s (outcomes p)).drives) 2047 ≡ false → planned_by s p ≡ with_stop (last_long_stop s.drives 0 (outcomes p)) p
planned_badly s p e = rw e refl
