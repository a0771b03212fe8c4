-- What a master stands for when it is opened.
use Rattle.sercos_master.proofs.Words.{◌≡◌, ℕ, zero, suc, ◌+◌, ◌<◌, ◌≤◌, ◌==◌, List, [], ◌∷◌, ◌++◌, length, ap, refl, sym, ◌∙◌, arith, subst, inl, inr, if◌then◌else◌, map, nat_lt, slice_index, slice_index_or, Some, None, false, Bool, true, All, position, set, length-set, cases_eq, eqb-true, eq-eqb, nat_tests, get_or-set_at, append_assoc, append-nil, get_or-set_other, get_or_append_left, get_or_push, length_push, nil_from_length, position-Some, Job, IsRequest, AreDistinct, DriveView, RingView, Known, IsKnown, MemberView, Task, HasLists, member, member_of, known_of, no_member, request_task, tasks_from, tasks_for, with_job, SeatView, SeatStandsFor, nothing_seen, first_from, new_epoch, SeatsStandFor, CoreView, CoreStandsFor, AreFresh, wishes_of, length_map}
use Rattle.std.proofs.lemmas.Bool.{cases_lt}
use Rattle.std.proofs.lemmas.List.{get_or-map}
use Rattle.std.proofs.lemmas.List.Elements.{All-map}
use Rattle.sercos_block.specs.ValidRings.{IsRing}
use Rattle.sercos_master.proofs.Places.{first_seat, place_same, other_place}

pub count_more : (seats : List SeatView) (w : SeatView) (n : ℕ) → length seats ≡ n → length (seats ++ w ∷ []) ≡ n + 1
count_more seats w n e = length_push seats w ∙ ap (λ m. m + 1) e

pub fresh_more : (seats : List SeatView) (w : SeatView) (drives : List DriveView) (n : ℕ) (e : DriveView) → length seats ≡ n → n < length drives → AreFresh seats (map member_of drives) →
    ((d : MemberView) → d ≡ member_of (slice_index_or drives n e) → SeatStandsFor w d (nothing_seen [])) → AreFresh (seats ++ w ∷ []) (map member_of drives)
fresh_more seats w drives n e count within all here k v d below = by (nat_lt k n) refl
  where
    by : (b : Bool) → nat_lt k n ≡ b → SeatStandsFor (slice_index_or (seats ++ w ∷ []) k v) (slice_index_or (map member_of drives) k d) (nothing_seen [])
    by true f = let h : k < length seats = grind (arith, nat_tests, f, count) in rw (get_or_append_left seats (w ∷ []) v k h) (all k v d h)
    by false f = let same : k ≡ length seats = grind (arith, nat_tests, f, count, below, length_push seats w) in
        rw (same, get_or_push seats w v (length seats) refl)
        (here (slice_index_or (map member_of drives) (length seats) d) (rw count (get_or-map member_of drives n e d within)))

pub nothing_fresh : (members : List MemberView) → AreFresh [] members
nothing_fresh members k v d h = absurd (omega (arith, h))

-- each drive's telegrams have room
pub lists_more : (drives : List DriveView) (n : ℕ) (e : DriveView) → n < length drives →
    ((k : ℕ) (d : MemberView) → k < n → HasLists (slice_index_or (map member_of drives) k d)) → HasLists (member_of (slice_index_or drives n e)) →
    (k : ℕ) (d : MemberView) → k < n + 1 → HasLists (slice_index_or (map member_of drives) k d)
lists_more drives n e within all here k d below = elim (cases_eq k n) [
  | inl is ↦ rw (is, get_or-map member_of drives n e d within) here
  | inr other ↦ all k d (omega (arith, below, other))
]

pub mapped_length : (drives : List DriveView) → length (map member_of drives) ≡ length drives
mapped_length drives = length_map member_of drives

pub lists_all : (drives : List DriveView) (n : ℕ) → length drives ≤ n →
    ((k : ℕ) (d : MemberView) → k < n → HasLists (slice_index_or (map member_of drives) k d)) → All HasLists (map member_of drives)
lists_all drives n over all k d below = all k d (let l = mapped_length drives in omega (arith, l, below, over))

-- THE REQUESTS
-- n are left of all, and the others were given, from the last one on
pub record AreDealt (all : List Job) (seats0 : List SeatView) (jobs : List Job) (seats : List SeatView) (done : ℕ) : Type 0 where
  pub more : List Job
  pub whole : jobs ++ more ≡ all
  pub left : length jobs + done ≡ length all
  pub requests : All (λ job. IsRequest job.request) jobs
  pub count : length seats ≡ length seats0
  pub stand : (s : Known) → AreDistinct (map (λ d. d.address) s.drives) → length seats0 ≡ length s.drives →
      SeatsStandFor seats0 s (λ k. nothing_seen []) → SeatsStandFor seats s (λ k. nothing_seen (tasks_from (member s k).address (length jobs + 1) more))

pub none_dealt : (all : List Job) (seats : List SeatView) → All (λ job. IsRequest job.request) all → AreDealt all seats all seats 0
none_dealt all seats requests = record {
  more = [];
  whole = append-nil all;
  left = omega arith;
  requests = requests;
  count = refl;
  stand = λ s apart count stands. stands;
}

pub dealt_next : (all : List Job) (seats0 : List SeatView) (jobs left : List Job) (job : Job) (seats new : List SeatView) (done number : ℕ) →
    AreDealt all seats0 jobs seats done → jobs ≡ left ++ job ∷ [] → number ≡ length left + 1 → length new ≡ length seats →
    ((s : Known) (tasks : ℕ → List Task) → AreDistinct (map (λ d. d.address) s.drives) → length seats ≡ length s.drives → SeatsStandFor seats s (λ k. nothing_seen (tasks k)) →
    SeatsStandFor new s (λ k. nothing_seen (with_job (member s k).address number job (tasks k)))) → AreDealt all seats0 left new (done + 1)
dealt_next all seats0 jobs left job seats new done number a split number_is count given = record {
  more = job ∷ a.more;
  whole = sym (append_assoc left (job ∷ []) a.more) ∙ (ap (λ xs. xs ++ a.more) (sym split) ∙ a.whole);
  left = let l = length_push left job in let m : length jobs ≡ length left + 1 = ap (λ xs. length xs) split ∙ l in let h = a.left in omega (arith, m, h);
  requests = All-take-left left job (subst (All (λ j. IsRequest j.request)) split a.requests);
  count = count ∙ a.count;
  stand = λ s apart same stands.
      let l : length jobs + 1 ≡ length left + 1 + 1 = ap (λ xs. length xs + 1) split ∙ ap (λ n. n + 1) (length_push left job) in
      let before : SeatsStandFor seats s (λ k. nothing_seen (tasks_from (member s k).address (length left + 1 + 1) a.more)) =
      subst (λ n. SeatsStandFor seats s (λ k. nothing_seen (tasks_from (member s k).address n a.more))) l (a.stand s apart same stands) in
      subst (λ n. SeatsStandFor new s (λ k. nothing_seen (with_job (member s k).address n job (tasks_from (member s k).address (length left + 1 + 1) a.more)))) number_is
      (given s (λ k. tasks_from (member s k).address (length left + 1 + 1) a.more) apart (a.count ∙ same) before);
}
  where
    All-take-left : (left : List Job) (job : Job) → All (λ j. IsRequest j.request) (left ++ job ∷ []) → All (λ j. IsRequest j.request) left
    All-take-left left job all k d below =
        let l = length_push left job in
        subst (λ j. IsRequest j.request) (get_or_append_left left (job ∷ []) d k below) (all k d (omega (arith, l, below)))

pub last_asks : (jobs left : List Job) (job : Job) → All (λ j. IsRequest j.request) jobs → jobs ≡ left ++ job ∷ [] → IsRequest job.request
last_asks jobs left job all split = let m : length jobs ≡ length left + 1 = ap (λ xs. length xs) split ∙ (length_push left job) in
    subst (λ j. IsRequest j.request) (ap (λ xs. slice_index_or xs (length left) job) split ∙ get_or_push left job job (length left) refl) (all (length left) job (omega (arith, m)))

pub all_dealt : (all jobs : List Job) (seats1 seats : List SeatView) (done : ℕ) → AreDealt all seats1 jobs seats done → length all ≤ done →
    (s : Known) → AreDistinct (map (λ d. d.address) s.drives) → length seats1 ≡ length s.drives → SeatsStandFor seats1 s (λ k. nothing_seen []) →
    SeatsStandFor seats s (λ k. nothing_seen (tasks_for s all k))
all_dealt all jobs seats1 seats done a over s apart same stands =
    let none : jobs ≡ [] = nil_from_length jobs (omega (arith, a.left, over)) in
    let whole : a.more ≡ all = ap (λ xs. xs ++ a.more) (sym none) ∙ a.whole in
    let one : length jobs + 1 ≡ 1 = ap (λ xs. length xs + 1) none in
    subst (λ xs. SeatsStandFor seats s (λ k. nothing_seen (tasks_from (member s k).address 1 xs))) whole
    (subst (λ n. SeatsStandFor seats s (λ k. nothing_seen (tasks_from (member s k).address n a.more))) one (a.stand s apart same stands))

-- A request is for the one drive with its address.
address_at : (s : Known) (i : ℕ) → i < length s.drives → slice_index (map (λ d. d.address) s.drives) i ≡ (member s i).address
address_at s i within = get_or-map (λ (d : MemberView). d.address) s.drives i no_member 0 within

other_address : (s : Known) (i k : ℕ) → AreDistinct (map (λ d. d.address) s.drives) → i < length s.drives → k < length s.drives → (i ≡ k → ⊥) → ((member s k).address ≡ (member s i).address → ⊥)
other_address s i k apart below within other same =
    let l = length_map (λ (d : MemberView). d.address) s.drives in
    elim (cases_lt i k) [
      | inl less ↦ apart i k less (omega (arith, l, within)) (address_at s i below ∙ (sym same ∙ sym (address_at s k within)))
      | inr most ↦ apart k i (omega (arith, most, other)) (omega (arith, l, below)) (address_at s k within ∙ (same ∙ sym (address_at s i below)))
    ]

pub given_one : (seats : List SeatView) (s : Known) (tasks : ℕ → List Task) (job : Job) (number place : ℕ) (w : SeatView) → AreDistinct (map (λ d. d.address) s.drives) → length seats ≡ length s.drives →
    position (λ v. v.member.address == job.drive) seats ≡ Some place → SeatsStandFor seats s (λ k. nothing_seen (tasks k)) →
    SeatStandsFor w (member s place) (nothing_seen (request_task number job.request ∷ tasks place)) →
    SeatsStandFor (set seats place w) s (λ k. nothing_seen (with_job (member s k).address number job (tasks k)))
given_one seats s tasks job number place w apart count found all here i v below =
    let is = position-Some (λ (v : SeatView). v.member.address == job.drive) seats place w found in
    let inside : i < length seats = rw length-set at below in
    let seat = all place w is.0 in
    let address : (member s place).address ≡ job.drive = ap (λ d. d.address) (sym seat.member_is) ∙ eqb-true (slice_index_or seats place w).member.address job.drive is.1 in
    elim (cases_eq i place) [
      | inl e ↦ rw (get_or-set_at seats place i w v e is.0, e, eq-eqb job.drive (member s place).address (sym address)) here
      | inr n ↦
          let no_one : (job.drive == (member s i).address) ≡ false = other_place job.drive (member s i).address (λ f. other_address s i place apart (omega (arith, inside, count)) (omega (arith, is.0, count)) n (address ∙ f)) in
          rw (get_or-set_other seats place i w v n, no_one) (all i v inside)
    ]

pub given_none : (seats : List SeatView) (s : Known) (tasks : ℕ → List Task) (job : Job) (number : ℕ) → length seats ≡ length s.drives →
    position (λ v. v.member.address == job.drive) seats ≡ None → SeatsStandFor seats s (λ k. nothing_seen (tasks k)) →
    SeatsStandFor seats s (λ k. nothing_seen (with_job (member s k).address number job (tasks k)))
given_none seats s tasks job number count none all i v below =
    let first = first_seat seats (λ v. v.member.address == job.drive) (λ k. (member s k).address == job.drive) (λ j w h. ap (λ d. d.address == job.drive) (all j w h).member_is) in
    let other : (job.drive == (member s i).address) ≡ false = grind (arith, nat_tests, none_from (length seats) 0 (λ k. (member s k).address == job.drive) (sym first ∙ none) i (omega arith) (omega (arith, below))) in
    rw other (all i v below)
  where
    none_from : (n k : ℕ) (like : ℕ → Bool) → first_from k n like ≡ None → (j : ℕ) → k ≤ j → j < k + n → like j ≡ false
    none_from zero k like e j low high = absurd (omega (arith, low, high))
    none_from (suc n) k like e j low high = by (like k) refl e (λ rest other. none_from n (k + 1) like rest j (omega (arith, low, other)) (omega (arith, high)))
      where
        by : (b : Bool) → like k ≡ b → (if b then Some k else first_from (k + 1) n like) ≡ None → (first_from (k + 1) n like ≡ None → (j ≡ k → ⊥) → like j ≡ false) → like j ≡ false
        by true f e rest = absurd (cc)
        by false f e rest = elim (cases_eq j k) [ inl is ↦ ap like is ∙ f | inr other ↦ rest e other ]

-- what was opened stands for a ring of which nothing was heard
pub opened : (v : CoreView) (r : RingView) (requests : ℕ → List Task) → v.rate ≡ r.rate → v.cycle ≡ r.cycle → v.control ≡ r.control → v.gap ≡ r.gap → v.order ≡ r.order → length v.seats ≡ length r.drives →
    ((address : ℕ) → address < 256 → slice_index_or v.places address None ≡ position (λ seat. seat.member.address == address) v.seats) →
    SeatsStandFor v.seats (known_of r) (λ k. nothing_seen (requests k)) → v ≡ record v { count = 0; phase = 0; whole = false; row = 0; lost = false; addressed = None; before = None; waited = 0; plan = None; plans = false; stopped = false; stop = None } →
    CoreStandsFor v (known_of r) (new_epoch 0 requests)
opened v r requests rate cycle control gap order count places seats rest = record {
  rate_is = rate;
  cycle_is = cycle;
  control_is = control;
  gap_is = gap;
  order_is = order;
  places_are = λ address byte. places address byte ∙ place_same v.seats (known_of r) (λ k. nothing_seen (requests k)) address (count ∙ sym (mapped_length r.drives)) seats;
  seats_count = count ∙ sym (mapped_length r.drives);
  seats = seats;
  count_is = ap (λ w. w.count) rest;
  phase_is = ap (λ w. w.phase) rest;
  whole_is = ap (λ w. w.whole) rest;
  row_is = ap (λ w. w.row) rest;
  lost_is = ap (λ w. w.lost) rest;
  addressed_is = ap (λ w. w.addressed) rest;
  before_is = ap (λ w. w.before) rest;
  waited_is = ap (λ w. w.waited) rest;
  plan_is = ap (λ w. w.plan) rest;
  plans_is = ap (λ w. w.plans) rest;
  stopped_is = ap (λ w. w.stopped) rest;
  stop_is = ap (λ w. w.stop) rest;
}

pub fresh_stand : (seats : List SeatView) (s : Known) → AreFresh seats s.drives → SeatsStandFor seats s (λ k. nothing_seen [])
fresh_stand seats s fresh k seat below = fresh k seat no_member below

-- what is so of the ring
pub known_of-IsRing : (r : RingView) → IsRing r → All HasLists (map member_of r.drives) → IsKnown (known_of r)
unfolding wishes_of
known_of-IsRing r is lists =
    let count = mapped_length r.drives in
    record {
      some = rw count is.some;
      few = rw count is.few;
      addresses = All-map (λ (d : MemberView). (1 ≤ d.address) × (d.address ≤ 254)) member_of r.drives is.addresses;
      apart = subst AreDistinct (sym (addresses_are r.drives)) is.apart;
      lists = lists;
      order = rw count is.order;
      cycles = record { rate = is.cycles.rate; cycle = is.cycles.cycle; control = is.cycles.control; gap = is.cycles.gap };
    }
  where
    addresses_are : (drives : List DriveView) → map (λ d. d.address) (map member_of drives) ≡ map (λ d. d.address) drives
    addresses_are [] = refl
    addresses_are (d ∷ drives) = ap (λ (xs : List ℕ). d.address ∷ xs) (addresses_are drives)
