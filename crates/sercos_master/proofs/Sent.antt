-- What the ring sends, and what that leaves.
use Rattle.sercos_master.proofs.Keeping.{cases_Option}
use Rattle.sercos_master.proofs.Words.{inr, inl, cases_Bool, ◌≡◌, ℕ, zero, suc, ◌+◌, ◌/◌, ◌%◌, ◌^◌, ◌<◌, ◌≤◌, ◌==◌, true, false, List, [], ◌∷◌, ◌++◌, Option, Some, None, length, ap, refl, sym, ◌∙◌, arith, subst, if◌then◌else◌, not, nat_le, nat_lt, take, is_some, is_none, option_map, slice_index_or, IfSome, position, set, length-set, false≢true, nat_tests, all_drives, master_says, begun_by, PlanView, leb-true, take_all, record_bytes, Wish, Known, MemberView, member, len_or_none, mdt_attributes, record_len, wish_given, wishes_from, outcomes_seen, IsPlanned, Past, outcomes, first_place, is_idle, is_identified, addressed_in, is_sent_to, sent_to, Sent, sent_as, record_to, records_from, mdt_said, single, joint, idle, Seen, SeatView, SeatStandsFor, sent_in, record_seen, SeatsStandFor, CoreView, CoreStandsFor, seen_at, sent_now, Fits, records_upto, idle_same, length-append, append-nil, append_assoc, cond-true}
use Rattle.std.proofs.lemmas.List.Sums.{sum_by-append}
use Rattle.sercos_seat.proofs.Sends.{seen_length}
use Rattle.sercos_seat.specs.Records.{record_said, value_said, values_said}
use Rattle.sercos_master.proofs.Places.{one_seat, with_seats, same_place, other_place}
use Rattle.sercos_master.proofs.Rings.{found, unidentified}
use Rattle.sercos_master.proofs.Wishes.{wishes_more}

-- THE RECORDS ONE BEHIND THE OTHER
upto_longer : (s : Known) (seen : ℕ → Seen) (count i n : ℕ) → i < n → length (records_upto s seen count i) + length (record_seen count (member s i) (seen i)) ≤ length (records_upto s seen count n)
upto_longer s seen count i zero h = absurd (omega (arith, h))
upto_longer s seen count i (suc n) h =
    let l = length-append (records_upto s seen count n) (record_seen count (member s n) (seen n)) in
    elim (cases_Bool (nat_lt i n)) [
      | inl e ↦ let rest = upto_longer s seen count i n (grind (arith, nat_tests, e)) in omega (arith, rest, l)
      | inr e ↦ let same : i ≡ n = grind (arith, nat_tests, e, h) in rw (same, l) (omega arith)
    ]

pub fits_next : (s : Known) (seen : ℕ → Seen) (count i n : ℕ) (first out : List ℕ) → i < n → length (first ++ records_upto s seen count n) ≤ 2048 → out ≡ first ++ records_upto s seen count i →
    length out + length (record_seen count (member s i) (seen i)) ≤ 2048
fits_next s seen count i n first out below fits is =
    let more = upto_longer s seen count i n below in
    rw is (omega (arith, length-append first (records_upto s seen count n), length-append first (records_upto s seen count i), more, fits))

pub out_next : (s : Known) (seen : ℕ → Seen) (count i : ℕ) (first out now : List ℕ) → out ≡ first ++ records_upto s seen count i → now ≡ out ++ record_seen count (member s i) (seen i) →
    now ≡ first ++ records_upto s seen count (i + 1)
out_next s seen count i first out now is next =
    let e : i + 1 ≡ suc i = omega arith in
    rw (next, is, e) (append_assoc first (records_upto s seen count i) (record_seen count (member s i) (seen i)))

-- the cycle's number counts by its low bytes
same_value : (cycle len : ℕ) → value_said (cycle % 2 ^ 32) len ≡ value_said cycle len
same_value cycle len =
    let a : cycle % 2 ^ 32 % 256 ≡ cycle % 256 = omega arith in
    let b : cycle % 2 ^ 32 / 256 % 256 ≡ cycle / 256 % 256 = omega arith in
    let d : cycle % 2 ^ 32 / 65536 % 256 ≡ cycle / 65536 % 256 = omega arith in
    let f : cycle % 2 ^ 32 / 16777216 % 256 ≡ cycle / 16777216 % 256 = omega arith in
    rw (a, b, d, f) refl

same_values : (cycle : ℕ) (words : List ℕ) → values_said (cycle % 2 ^ 32) words ≡ values_said cycle words
same_values cycle [] = refl
same_values cycle (w ∷ words) = rw (same_value cycle (len_or_none w), same_values cycle words) refl

pub upto_same : (s : Known) (seen : ℕ → Seen) (cycle n : ℕ) → records_upto s seen (cycle % 2 ^ 32) n ≡ records_upto s seen cycle n
upto_same s seen cycle zero = refl
upto_same s seen cycle (suc n) = rw (upto_same s seen cycle n, same_values cycle (mdt_attributes (member s n) (outcomes_seen (seen n)))) refl

-- WHAT IS SENT TO ALL
late_phase : (phase : ℕ) → 3 ≤ phase → ((phase == 1) ≡ false) × (((phase == 2) ≡ false) × (nat_le 3 phase ≡ true))
late_phase phase h = (grind (arith, nat_tests, h), (grind (arith, nat_tests, h), grind (arith, nat_tests, h)))

addressed_late : (s : Known) (p : Past) → 3 ≤ p.now.phase → addressed_in s p ≡ None
addressed_late s p h = let l = late_phase p.now.phase h in rw (l.0, l.1.0) refl

seen_sent : (p : Past) (k : ℕ) → 3 ≤ p.now.phase → seen_at (sent_to None p) k ≡ sent_in (seen_at p k)
seen_sent p k h = let l = late_phase p.now.phase h in rw l.1.1 refl

record_sent : (s : Known) (p : Past) (k : ℕ) → 3 ≤ p.now.phase → record_to s (sent_to None p) k ≡ record_seen p.cycle (member s k) (seen_at p k)
record_sent s p k h = let l = late_phase p.now.phase h in rw l.1.1 refl

from_upto : (s : Known) (p : Past) (k n : ℕ) → 3 ≤ p.now.phase →
    records_upto s (seen_at p) p.cycle k ++ records_from s (sent_to None p) k n ≡ records_upto s (seen_at p) p.cycle (k + n)
from_upto s p k zero h = let none : k ≡ k + 0 = omega arith in append-nil _ ∙ ap (records_upto s (seen_at p) p.cycle) none
from_upto s p k (suc n) h =
    let e : k + 1 ≡ suc k = omega arith in
    let f : suc k + n ≡ k + suc n = omega arith in
    ap (λ r. records_upto s (seen_at p) p.cycle k ++ (r ++ records_from s (sent_to None p) (k + 1) n)) (record_sent s p k h)
    ∙ (sym (append_assoc (records_upto s (seen_at p) p.cycle k) (record_seen p.cycle (member s k) (seen_at p k)) (records_from s (sent_to None p) (k + 1) n))
    ∙ (ap (λ i. records_upto s (seen_at p) p.cycle (suc k) ++ records_from s (sent_to None p) i n) e
    ∙ (from_upto s p (suc k) n h ∙ ap (records_upto s (seen_at p) p.cycle) f)))

pub records_all : (s : Known) (p : Past) → 3 ≤ p.now.phase → records_from s (sent_to None p) 0 (length s.drives) ≡ records_upto s (seen_at p) p.cycle (length s.drives)
records_all s p h = from_upto s p 0 (length s.drives) h ∙ (let none : 0 + length s.drives ≡ length s.drives = omega arith in ap (records_upto s (seen_at p) p.cycle) none)

pub said_late : (s : Known) (p : Past) → 3 ≤ p.now.phase → mdt_said s (sent_now s p) ≡ option_map (joint s (sent_to None p)) p.plan
said_late s p h = let l = late_phase p.now.phase h in rw (ap (λ a. sent_to a p) (addressed_late s p h), l.0, l.1.0, l.1.1) refl

pub content_planned : (s : Known) (p : Past) (out : List ℕ) → 3 ≤ p.now.phase → (is_some p.plan ≡ true → out ≡ all_drives ∷ records_upto s (seen_at p) p.cycle (length s.drives)) →
    IfSome (mdt_said s (sent_now s p)) (λ m. out ≡ m.content)
content_planned s p out h e = rw (said_late s p h) (by p.plan e)
  where
    by : (o : Option PlanView) → (is_some o ≡ true → out ≡ all_drives ∷ records_upto s (seen_at p) p.cycle (length s.drives)) → IfSome (option_map (joint s (sent_to None p)) o) (λ m. out ≡ m.content)
    by None e = tt
    by (Some q) e = e refl ∙ ap (λ bytes. all_drives ∷ bytes) (sym (records_all s p h))

-- the seats that the sending leaves, and all else as it was
sent_core : (v : CoreView) (seats : List SeatView) (s : Known) (p : Past) (to : Option ℕ) → CoreStandsFor v s p → length seats ≡ length v.seats → SeatsStandFor seats s (seen_at (sent_to to p)) →
    CoreStandsFor (record v { seats = seats; addressed = to }) s (sent_to to p)
sent_core v seats s p to c count all = with_seats v seats to s p (sent_to to p) c (record { cycle_is = refl; turns_is = refl; phase_is = refl; whole_is = refl; plans_is = refl; plan_is = refl; stop_is = refl; told_is = refl }) refl count all

pub sent_all : (v : CoreView) (seats : List SeatView) (s : Known) (p : Past) → CoreStandsFor v s p → 3 ≤ p.now.phase → length seats ≡ length v.seats → SeatsStandFor seats s (λ k. sent_in (seen_at p k)) →
    CoreStandsFor (record v { seats = seats; addressed = None }) s (sent_now s p)
sent_all v seats s p c h count all = rw (ap (λ a. sent_to a p) (addressed_late s p h)) (sent_core v seats s p None c count
    (λ k seat below. subst (SeatStandsFor (slice_index_or seats k seat) (member s k)) (sym (seen_sent p k h)) (all k seat below)))

-- WHAT IS SENT TO ONE, OR TO NONE
seen_unsent : (p : Past) (to : Option ℕ) (k : ℕ) → is_sent_to p to k ≡ false → seen_at (sent_to to p) k ≡ seen_at p k
seen_unsent p to k e = rw e refl

seen_there : (p : Past) (to : Option ℕ) (k : ℕ) → is_sent_to p to k ≡ true → seen_at (sent_to to p) k ≡ sent_in (seen_at p k)
seen_there p to k e = rw e refl

-- where nothing goes through a channel
unsent : (v : CoreView) (s : Known) (p : Past) (to : Option ℕ) → CoreStandsFor v s p → ((k : ℕ) → is_sent_to p to k ≡ false) → CoreStandsFor (record v { addressed = to }) s (sent_to to p)
unsent v s p to c none = sent_core v v.seats s p to c refl (λ k seat below. subst (SeatStandsFor (slice_index_or v.seats k seat) (member s k)) (sym (seen_unsent p to k (none k))) (c.seats k seat below))

to_1 : (v : CoreView) (s : Known) (p : Past) → CoreStandsFor v s p → p.now.phase ≡ 1 → addressed_in s p ≡ position (λ seat. not seat.identified) v.seats
to_1 v s p c e =
    cond-true (p.now.phase == 1) (first_place s (λ k. not (is_identified p k))) (if p.now.phase == 2 then first_place s (λ k. not (is_idle p k)) else None) (rw e refl)
    ∙ sym (unidentified v s p c)

pub sent_1 : (v : CoreView) (s : Known) (p : Past) → CoreStandsFor v s p → p.now.phase ≡ 1 → CoreStandsFor (record v { addressed = position (λ seat. not seat.identified) v.seats }) s (sent_now s p)
sent_1 v s p c e = subst (λ to. CoreStandsFor (record v { addressed = position (λ seat. not seat.identified) v.seats }) s (sent_to to p)) (sym (to_1 v s p c e))
    (unsent v s p (position (λ seat. not seat.identified) v.seats) c (λ k. rw e refl))

pub said_1 : (v : CoreView) (s : Known) (p : Past) → CoreStandsFor v s p → p.now.phase ≡ 1 → mdt_said s (sent_now s p) ≡ option_map (single s idle) (position (λ seat. not seat.identified) v.seats)
said_1 v s p c e = subst (λ to. mdt_said s (sent_to to p) ≡ option_map (single s idle) (position (λ seat. not seat.identified) v.seats)) (sym (to_1 v s p c e)) (rw e refl)

to_2 : (v : CoreView) (s : Known) (p : Past) (to : Option ℕ) → CoreStandsFor v s p → p.now.phase ≡ 2 → position (λ seat. not (is_none seat.channel.transfer)) v.seats ≡ to → addressed_in s p ≡ to
to_2 v s p to c e f = rw e (sym (found v s p (λ seat. not (is_none seat.channel.transfer)) (λ k. not (is_idle p k)) c
    (λ i seat t. ap not (idle_same seat (member s i) (seen_at p i) t))) ∙ f)

pub sent_none_2 : (v : CoreView) (s : Known) (p : Past) → CoreStandsFor v s p → p.now.phase ≡ 2 → position (λ seat. not (is_none seat.channel.transfer)) v.seats ≡ None → CoreStandsFor (record v { addressed = None }) s (sent_now s p)
sent_none_2 v s p c e f = rw (to_2 v s p None c e f) (unsent v s p None c (λ k. rw e refl))

pub sent_one_2 : (v : CoreView) (s : Known) (p : Past) (k : ℕ) (w : SeatView) → CoreStandsFor v s p → p.now.phase ≡ 2 → k < length v.seats → position (λ seat. not (is_none seat.channel.transfer)) v.seats ≡ Some k →
    SeatStandsFor w (member s k) (sent_in (seen_at p k)) → CoreStandsFor (record v { seats = set v.seats k w; addressed = Some k }) s (sent_now s p)
sent_one_2 v s p k w c e within f here =
    let at : is_sent_to p (Some k) k ≡ true = rw (e, same_place k) refl in
    rw (to_2 v s p (Some k) c e f)
    (sent_core v (set v.seats k w) s p (Some k) c (length-set v.seats k w)
    (one_seat v.seats s (seen_at p) (seen_at (sent_to (Some k) p)) k w within c.seats
    (λ i n. seen_unsent p (Some k) i (rw (e, other_place i k n) refl))
    (rw (seen_there p (Some k) k at) here)))

pub said_none_2 : (v : CoreView) (s : Known) (p : Past) → CoreStandsFor v s p → p.now.phase ≡ 2 → position (λ seat. not (is_none seat.channel.transfer)) v.seats ≡ None → mdt_said s (sent_now s p) ≡ None
said_none_2 v s p c e f = rw (to_2 v s p None c e f) (rw e refl)

pub said_one_2 : (v : CoreView) (s : Known) (p : Past) (k : ℕ) → CoreStandsFor v s p → p.now.phase ≡ 2 → position (λ seat. not (is_none seat.channel.transfer)) v.seats ≡ Some k →
    mdt_said s (sent_now s p) ≡ Some (record { start = 650; content = (member s k).address ∷ record_said (master_says (begun_by (p.calls k))) [] })
said_one_2 v s p k c e f = rw (to_2 v s p (Some k) c e f) (rw (e, same_place k) refl)

pub start_none : (s : Known) (q : Past) → mdt_said s q ≡ None → None ≡ option_map (λ m. m.start) (mdt_said s q)
start_none s q e = rw e refl

pub content_none : (s : Known) (q : Past) (out : List ℕ) → mdt_said s q ≡ None → IfSome (mdt_said s q) (λ m. out ≡ m.content)
content_none s q out e = rw e tt

pub said_none_1 : (v : CoreView) (s : Known) (p : Past) → CoreStandsFor v s p → p.now.phase ≡ 1 → position (λ seat. not seat.identified) v.seats ≡ None → mdt_said s (sent_now s p) ≡ None
said_none_1 v s p c e f = said_1 v s p c e ∙ ap (option_map (single s idle)) f

pub said_one_1 : (v : CoreView) (s : Known) (p : Past) (k : ℕ) → CoreStandsFor v s p → p.now.phase ≡ 1 → position (λ seat. not seat.identified) v.seats ≡ Some k → mdt_said s (sent_now s p) ≡ Some (single s idle k)
said_one_1 v s p k c e f = said_1 v s p c e ∙ ap (option_map (single s idle)) f

-- THE RECORDS FIT where the plan is that of what was read.
upto_length : (s : Known) (p : Past) (cycle n : ℕ) → n ≤ length s.drives → length (records_upto s (seen_at p) cycle n) ≡ record_bytes (wishes_from (take n s.drives) 0 (outcomes p))
upto_length s p cycle zero h = none s.drives
  where
    none : (drives : List MemberView) → 0 ≡ record_bytes (wishes_from (take 0 drives) 0 (outcomes p))
    none [] = refl
    none (d ∷ drives) = refl
upto_length s p cycle (suc n) h =
    let e : n + 1 ≡ suc n = omega arith in
    let one : length (record_seen cycle (member s n) (seen_at p n)) ≡ record_len (member s n) (outcomes p n) = seen_length cycle (member s n) (seen_at p n) in
    let both = length-append (records_upto s (seen_at p) cycle n) (record_seen cycle (member s n) (seen_at p n)) in
    let more = wishes_more s.drives 0 n (outcomes p) (omega (arith, h)) in
    let sum : record_bytes (wishes_from (take n s.drives) 0 (outcomes p) ++ wish_given (member s n) (outcomes p (0 + n)) ∷ []) ≡ record_bytes (wishes_from (take n s.drives) 0 (outcomes p)) + record_bytes (wish_given (member s n) (outcomes p (0 + n)) ∷ []) =
    sum_by-append (λ (w : Wish). w.record_len) (wishes_from (take n s.drives) 0 (outcomes p)) (wish_given (member s n) (outcomes p (0 + n)) ∷ []) in
    let z : 0 + n ≡ n = omega arith in
    let last : record_bytes (wish_given (member s n) (outcomes p (0 + n)) ∷ []) ≡ record_len (member s n) (outcomes p n) = rw z (omega arith) in
    rw (← e) (omega (arith, upto_length s p cycle n (omega (arith, h)), one, both) ∙ (sym (rw last at sum) ∙ sym (ap record_bytes more)))

pub fits_planned : (s : Known) (p : Past) → IsPlanned s p → is_some p.plan ≡ true → Fits s p
fits_planned s p planned some = elim (cases_Option p.plan) [
  | inl e ↦ absurd (false≢true (rw e at some))
  | inr (plan, e) ↦ let long = upto_length s p p.cycle (length s.drives) (omega arith) ∙
      ap (λ ds. record_bytes (wishes_from ds 0 (outcomes p))) (take_all (length s.drives) s.drives (omega arith))
      in omega (arith, leb-true (record_bytes (wishes_from s.drives 0 (outcomes p))) 2047 (planned plan e).fits, long)
]

-- a start and a content are what is said
pub said_both : (start : Option ℕ) (content : List ℕ) (m : Option Sent) → start ≡ option_map (λ x. x.start) m → IfSome m (λ x. content ≡ x.content) → sent_as start content ≡ m
said_both start content None e h = rw e refl
said_both start content (Some x) e h = rw (e, h) refl
