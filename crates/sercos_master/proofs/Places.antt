-- Places of the ring, and what a call changes at one of them.
use Rattle.sercos_master.specs.Kept.{has_lost}
use Rattle.sercos_master.proofs.Words.{cases_Bool, min, is_some, PlanView, Stop, whole_row, addressed_before, waited_row, ◌%◌, ◌^◌, ◌≡◌, ℕ, suc, ◌+◌, ◌<◌, ◌==◌, Bool, true, false, List, [], ◌∷◌, Option, Some, length, ap, refl, sym, ◌∙◌, arith, if◌then◌else◌, inl, inr, is_none, nat_le, slice_index_or, ◌&&◌, not, position, position_from, set, length-set, get_or-set_other, get_or-set_at, cases_eq, nat_tests, position_from-zero, position-Some, status_of, word_at, at_fault, Known, member, at_len_same, Past, first_from, is_awaited, wanted_len, is_taken, place_of, after_taken, after_at_of, is_place, Seen, SeatView, SeatStandsFor, seen_with_status, at_in, at_len_kept, stop_told, SeatsStandFor, CoreView, CoreStandsFor, seen_at}

-- The first seat that passes a test is at the first place that passes the like.
pub first_like : (seats : List SeatView) (test : SeatView → Bool) (like : ℕ → Bool) (k : ℕ) → ((i : ℕ) (v : SeatView) → i < length seats → test (slice_index_or seats i v) ≡ like (k + i)) →
    position_from test k seats ≡ first_from k (length seats) like
first_like [] test like k same = refl
first_like (v ∷ seats) test like k same =
    let here : test v ≡ like k = same 0 v (omega arith) ∙ ap like (omega arith) in
    rw (here, first_like seats test like (k + 1) (λ i w below. same (suc i) w (omega (arith, below)) ∙ ap like (omega arith))) refl

pub first_seat : (seats : List SeatView) (test : SeatView → Bool) (like : ℕ → Bool) → ((i : ℕ) (v : SeatView) → i < length seats → test (slice_index_or seats i v) ≡ like i) →
    position test seats ≡ first_from 0 (length seats) like
first_seat seats test like same = position_from-zero test seats ∙ first_like seats test like 0 (λ i v below. same i v below ∙ ap like (omega arith))

-- the value at a place, and at another
pub same_place : (k : ℕ) → (k == k) ≡ true
same_place k = grind (arith, nat_tests)

pub other_place : (i k : ℕ) → (i ≡ k → ⊥) → (i == k) ≡ false
other_place i k n = grind (arith, nat_tests, n)

-- what is seen where an AT is taken, and elsewhere
pub seen_there : (k : ℕ) (content : List ℕ) (p : Past) →
    seen_at (after_taken k content p) k ≡ seen_with_status (p.now.phase == 1) (status_of (word_at content 1)) (word_at content 3) (seen_at p k)
seen_there k content p = elim (cases_Bool (p.now.phase == 1)) [ inl e ↦ rw (e, same_place k) refl | inr e ↦ rw (e, same_place k) refl ]

-- one seat changes with what was seen of it, and the others stay
pub one_seat : (seats : List SeatView) (s : Known) (seen now : ℕ → Seen) (k : ℕ) (w : SeatView) → k < length seats → SeatsStandFor seats s seen →
    ((i : ℕ) → (i ≡ k → ⊥) → now i ≡ seen i) → SeatStandsFor w (member s k) (now k) → SeatsStandFor (set seats k w) s now
one_seat seats s seen now k w within all same here i v below = elim (cases_eq i k) [
  | inl e ↦ rw (get_or-set_at seats k i w v e within, e) here
  | inr n ↦ rw (get_or-set_other seats k i w v n, same i n) (all i v (rw length-set at below))
]

-- Another past may stand where all but what the ring is known by is kept anew: the seats, the numbers of the cycle, the plan and the stop.
pub core_of : {v : CoreView} {s : Known} {p q : Past} {seats : List SeatView} {count phase : ℕ} {whole : Bool} {row : ℕ} {lost : Bool}
    {to before : Option ℕ} {waited : ℕ} {plan : Option PlanView} {plans stopped : Bool} {stop : Option Stop} → CoreStandsFor v s p
    → length seats ≡ length v.seats → SeatsStandFor seats s (seen_at q) → count ≡ q.cycle % 2 ^ 32 → phase ≡ q.now.phase
    → whole ≡ q.now.whole → row ≡ min (whole_row q.turns) 10 → lost ≡ has_lost q.turns → to ≡ q.now.addressed
    → before ≡ addressed_before q.turns → waited ≡ waited_row q.turns → plan ≡ q.plan → plans ≡ q.now.plans → stopped ≡ is_some q.stop
    → stop ≡ stop_told q
    → CoreStandsFor (record v {
      seats = seats;
      count = count;
      phase = phase;
      whole = whole;
      row = row;
      lost = lost;
      addressed = to;
      before = before;
      waited = waited;
      plan = plan;
      plans = plans;
      stopped = stopped;
      stop = stop;
    }) s q
core_of c many all count phase whole row lost to before waited plan plans stopped stop = record {
  rate_is = c.rate_is;
  cycle_is = c.cycle_is;
  control_is = c.control_is;
  gap_is = c.gap_is;
  order_is = c.order_is;
  places_are = c.places_are;
  seats_count = many ∙ c.seats_count;
  seats = all;
  count_is = count;
  phase_is = phase;
  whole_is = whole;
  row_is = row;
  lost_is = lost;
  addressed_is = to;
  before_is = before;
  waited_is = waited;
  plan_is = plan;
  plans_is = plans;
  stopped_is = stopped;
  stop_is = stop;
}

-- what a call on channels leaves of the ring
pub record LeavesRest (q p : Past) : Type 0 where
  pub cycle_is : q.cycle ≡ p.cycle
  pub turns_is : q.turns ≡ p.turns
  pub phase_is : q.now.phase ≡ p.now.phase
  pub whole_is : q.now.whole ≡ p.now.whole
  pub plans_is : q.now.plans ≡ p.now.plans
  pub plan_is : q.plan ≡ p.plan
  pub stop_is : q.stop ≡ p.stop
  pub told_is : stop_told q ≡ stop_told p

-- then the seats may be others, and the drive that the MDT is to
pub with_seats : (v : CoreView) (seats : List SeatView) (to : Option ℕ) (s : Known) (p q : Past) → CoreStandsFor v s p → LeavesRest q p → to ≡ q.now.addressed → length seats ≡ length v.seats →
    SeatsStandFor seats s (seen_at q) → CoreStandsFor (record v { seats = seats; addressed = to }) s q
with_seats v seats to s p q c same to_is count all = core_of c count all (rw same.cycle_is c.count_is) (c.phase_is ∙ sym same.phase_is)
    (c.whole_is ∙ sym same.whole_is) (rw same.turns_is c.row_is) (rw same.turns_is c.lost_is) to_is (rw same.turns_is c.before_is)
    (rw same.turns_is c.waited_is) (c.plan_is ∙ sym same.plan_is) (c.plans_is ∙ sym same.plans_is) (rw same.stop_is c.stopped_is)
    (c.stop_is ∙ sym same.told_is)

-- an AT comes that is awaited
pub hears_from : (v : CoreView) (s : Known) (p : Past) (k wanted : ℕ) (content : List ℕ) (w : SeatView) → CoreStandsFor v s p → k < length v.seats →
    is_awaited p k ≡ true → wanted ≡ wanted_len s p k →
    SeatStandsFor w (member s k) (at_in (p.now.phase == 1) (member s k).address wanted content (seen_at p k)) →
    CoreStandsFor (record v { seats = set v.seats k w }) s (after_at_of s (Some k) content p)
hears_from v s p k wanted content w c within awaited is here = by (is_taken s p k content) refl
  where
    by : (t : Bool) → is_taken s p k content ≡ t → CoreStandsFor (record v { seats = set v.seats k w }) s (if is_taken s p k content then after_taken k content p else p)
    by true e =
        let f : (not (p.now.heard k) && is_none (at_fault (member s k).address wanted content)) ≡ true = rw is
        (sym (rw awaited refl) ∙ e) in
        let now : SeatStandsFor w (member s k) (seen_at (after_taken k content p) k) = rw seen_there (rw f at here) in
        rw e (with_seats v (set v.seats k w) v.addressed s p (after_taken k content p) c (record { cycle_is = refl; turns_is = refl; phase_is = refl; whole_is = refl; plans_is = refl; plan_is = refl; stop_is = refl; told_is = refl }) c.addressed_is (length-set v.seats k w)
        (one_seat v.seats s (seen_at p) (seen_at (after_taken k content p)) k w within c.seats (λ i n. rw (other_place i k n) refl) now))
    by false e =
        let f : (not (p.now.heard k) && is_none (at_fault (member s k).address wanted content)) ≡ false = rw is
        (sym (rw awaited refl) ∙ e) in
        rw e (with_seats v (set v.seats k w) v.addressed s p p c (record { cycle_is = refl; turns_is = refl; phase_is = refl; whole_is = refl; plans_is = refl; plan_is = refl; stop_is = refl; told_is = refl }) c.addressed_is (length-set v.seats k w)
        (one_seat v.seats s (seen_at p) (seen_at p) k w within c.seats (λ i n. refl) (rw f at here)))

-- what is wanted of an AT is what the code asks
pub wanted_same : (v : CoreView) (s : Known) (p : Past) (k : ℕ) (seat : SeatView) → CoreStandsFor v s p → k < length v.seats →
    (if nat_le 3 v.phase then at_len_kept (slice_index_or v.seats k seat) else 4) ≡ wanted_len s p k
wanted_same v s p k seat c within =
    rw (at_len_same (slice_index_or v.seats k seat) (member s k) (seen_at p k) (c.seats k seat within), c.phase_is) refl

pub awaited_same : (v : CoreView) (s : Known) (p : Past) (k : ℕ) → CoreStandsFor v s p →
    (if nat_le 3 v.phase then true else (nat_le 1 v.phase && is_place k v.before)) ≡ is_awaited p k
awaited_same v s p k c = rw (c.phase_is, c.before_is) refl

-- the seat with an address
pub place_same : (seats : List SeatView) (s : Known) (seen : ℕ → Seen) (address : ℕ) → length seats ≡ length s.drives → SeatsStandFor seats s seen →
    position (λ seat. seat.member.address == address) seats ≡ place_of s address
place_same seats s seen address count all =
    first_seat seats (λ seat. seat.member.address == address) (λ k. (member s k).address == address)
    (λ i seat below. ap (λ d. d.address == address) (all i seat below).member_is)
    ∙ ap (λ n. first_from 0 n (λ k. (member s k).address == address)) count

-- its place is one of the ring
pub place_inside : (v : CoreView) (s : Known) (p : Past) (address k : ℕ) → CoreStandsFor v s p → place_of s address ≡ Some k → k < length v.seats
place_inside v s p address k c found = inside (λ seat. seat.member.address == address) v.seats (place_same v.seats s (seen_at p) address c.seats_count c.seats ∙ found)
  where
    inside : (test : SeatView → Bool) (seats : List SeatView) → position test seats ≡ Some k → k < length seats
    inside test [] e = absurd (cc)
    inside test (seat ∷ seats) e = (position-Some test (seat ∷ seats) k seat e).0
