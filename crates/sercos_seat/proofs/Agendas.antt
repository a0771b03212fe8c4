-- The next task of a channel, by what is kept.
use Rattle.std.proofs.Common.{◌≡◌, ℕ, zero, suc, ◌+◌, ◌-◌, ◌<◌, ◌≤◌, ◌==◌, Bool, true, false, List, [], ◌∷◌, ◌++◌, Option, Some, None, length, ap, refl, sym, ◌∙◌, arith, if◌then◌else◌}
use Rattle.std.specs.Prelude.{min, map, slice_get, option_map, is_some, nat_lt, not, ◌&&◌}
use Rattle.std.proofs.lemmas.Bool.{false≢true}
use Rattle.std.proofs.lemmas.Bool.Decides.{nat_tests}
use Rattle.sercos_step.specs.declared.request.Outcome.{Outcome}
use Rattle.sercos_step.specs.declared.request.Request.{Request}
use Rattle.sercos_step.specs.declared.request.Request.TheVariants as request
use Rattle.sercos_timing.specs.Views.{PlanView}
use Rattle.sercos_seat.specs.Ring.{Known, MemberView, Task, member, startup}
use Rattle.sercos_seat.specs.Agenda.{after_reads, agenda, checking, reads, reads_count, writes, idn, bytes_of, ended_well, given, is_checked, is_ready}
use Rattle.sercos_seat.specs.Channel.{of_phase}
use Rattle.sercos_seat.specs.Seats.{AreWaiting, Seen, SeatView, SeatStandsFor, is_idle_in, outcomes_seen, next_write, next_in_2, next_in_3}
use Rattle.sercos_seat.proofs.Gets.{get_map, get_left, get_right, get_none, length_map, length_append}

pub reads_length : (d : MemberView) → length (reads d) ≡ reads_count d
reads_length d =
    let e : length (map (λ i. request.Read i 3) (d.at ++ d.mdt)) ≡ length (d.at ++ d.mdt) = length_map (λ i. request.Read i 3) (d.at ++ d.mdt) in
    let f : length (d.at ++ d.mdt) ≡ length d.at + length d.mdt = length_append d.at d.mdt in
    omega (arith, e, f)

-- while reads are left, the next is a read
pub next_read : (s : Known) (plan : Option PlanView) (waiting : List Task) (k : ℕ) (outcomes : List Outcome) (i : ℕ) → i < reads_count (member s k) →
    slice_get (agenda s plan waiting k outcomes) i ≡ option_map (startup 2) (slice_get (reads (member s k)) i)
next_read s plan waiting k outcomes i h =
    let l : length (map (startup 2) (reads (member s k))) ≡ reads_count (member s k) = length_map (startup 2) (reads (member s k)) ∙ reads_length (member s k) in
    get_left (map (startup 2) (reads (member s k))) (after_reads s plan waiting k outcomes) i (rw l h)
    ∙ get_map (startup 2) (reads (member s k)) i

-- after them it is one of those that come after
pub next_behind : (s : Known) (plan : Option PlanView) (waiting : List Task) (k : ℕ) (outcomes : List Outcome) (i j : ℕ) → i ≡ reads_count (member s k) + j →
    slice_get (agenda s plan waiting k outcomes) i ≡ slice_get (after_reads s plan waiting k outcomes) j
next_behind s plan waiting k outcomes i j e =
    let l : length (map (startup 2) (reads (member s k))) ≡ reads_count (member s k) = length_map (startup 2) (reads (member s k)) ∙ reads_length (member s k) in
    get_right (map (startup 2) (reads (member s k))) (after_reads s plan waiting k outcomes) i j (rw l e)

-- what `of_phase` keeps
abbrev requests_of : ℕ → Option Task → Option Task
requests_of phase t = of_phase phase t

startups : (r : Option Request) → requests_of 2 (option_map (startup 2) r) ≡ option_map (startup 2) r
startups None = refl
startups (Some r) = refl

pub kept_reads : (s : Known) (plan : Option PlanView) (waiting : List Task) (k : ℕ) (outcomes : List Outcome) → length outcomes < reads_count (member s k) →
    requests_of 2 (slice_get (agenda s plan waiting k outcomes) (length outcomes)) ≡ option_map (startup 2) (slice_get (reads (member s k)) (length outcomes))
kept_reads s plan waiting k outcomes h = rw (next_read s plan waiting k outcomes (length outcomes) h) (startups (slice_get (reads (member s k)) (length outcomes)))

and_false : (a : Bool) → (a && false) ≡ false
and_false true = refl
and_false false = refl

-- a task of another phase is passed over
other_phase : (phase : ℕ) (t : Task) → (t.phase ≡ phase → ⊥) → requests_of phase (Some t) ≡ None
other_phase phase t n = let e : (t.phase == phase) ≡ false = grind (arith, nat_tests, n) in rw e refl

none_waiting : (waiting : List Task) (phase i : ℕ) → AreWaiting waiting → (phase ≡ 4 → ⊥) → requests_of phase (slice_get waiting i) ≡ None
none_waiting waiting phase i all n = by (slice_get waiting i) refl
  where
    by : (t : Option Task) → slice_get waiting i ≡ t → requests_of phase (slice_get waiting i) ≡ None
    by None e = rw e refl
    by (Some t) e = rw e (other_phase phase t (λ f. n (sym f ∙ all i t e)))

-- what comes after the writes
abbrev pub checks : ℕ → List Task → List Outcome → List Task
checks r waiting outcomes = checking 2 127 21 (slice_get outcomes (r + 11)) (checking 3 128 22 (slice_get outcomes (r + 12)) waiting)

-- what an outcome gives, by the list
given_some : (outcomes : List Outcome) (i : ℕ) (o : Outcome) → slice_get outcomes i ≡ Some o → given outcomes i ≡ bytes_of o
given_some outcomes i o e = rw e refl

some_below : (outcomes : List Outcome) (i : ℕ) → i < length outcomes → (o : Outcome) × (slice_get outcomes i ≡ Some o)
some_below [] i h = absurd (omega (arith, h))
some_below (o ∷ outcomes) zero h = (o, refl)
some_below (o ∷ outcomes) (suc i) h = some_below outcomes i (omega (arith, h))

-- the first task after the writes
first_check : (r : ℕ) (waiting : List Task) (outcomes : List Outcome) → slice_get (checks r waiting outcomes) 0 ≡ Some (startup 2 (request.Command (idn 127)))
first_check r waiting outcomes = by (slice_get outcomes (r + 11))
  where
    by : (o : Option Outcome) → slice_get (checking 2 127 21 o (checking 3 128 22 (slice_get outcomes (r + 12)) waiting)) 0 ≡ Some (startup 2 (request.Command (idn 127)))
    by None = refl
    by (Some o) = refl

-- the second, where the check has ended
second_check : (r : ℕ) (waiting : List Task) (outcomes : List Outcome) (well : Bool) → length outcomes ≡ r + 12 → ended_well (given outcomes (r + 11)) ≡ well →
    slice_get (checks r waiting outcomes) 1 ≡ Some (if well then startup 3 (request.Command (idn 128)) else startup 2 (request.Read (idn 21) 7))
second_check r waiting outcomes well l e = by (some_below outcomes (r + 11) (omega (arith, l)))
  where
    behind : slice_get outcomes (r + 12) ≡ None
    behind = get_none outcomes (r + 12) (omega (arith, l))

    by : ((o : Outcome) × (slice_get outcomes (r + 11) ≡ Some o)) →
        slice_get (checks r waiting outcomes) 1 ≡ Some (if well then startup 3 (request.Command (idn 128)) else startup 2 (request.Read (idn 21) 7))
    by found =
        let f : ended_well (bytes_of found.0) ≡ well = ap ended_well (sym (given_some outcomes (r + 11) found.0 found.1)) ∙ e in
        rw (found.1, behind, f) (either well)
      where
        either : (b : Bool) → slice_get (if b then startup 3 (request.Command (idn 128)) ∷ [] else startup 2 (request.Read (idn 21) 7) ∷ []) 0 ≡ Some (if b then startup 3 (request.Command (idn 128)) else startup 2 (request.Read (idn 21) 7))
        either true = refl
        either false = refl

-- none after it belongs to phase 2
later_check : (r j : ℕ) (waiting : List Task) (outcomes : List Outcome) → AreWaiting waiting → 2 ≤ j → requests_of 2 (slice_get (checks r waiting outcomes) j) ≡ None
later_check r j waiting outcomes all h = by_first (slice_get outcomes (r + 11)) (j - 2) (omega (arith, h))
  where
    by_second : (o : Option Outcome) (i : ℕ) → requests_of 2 (slice_get (checking 3 128 22 o waiting) (suc i)) ≡ None
    by_second None i = refl
    by_second (Some o) i = either (ended_well (bytes_of o))
      where
        past_list : (n : ℕ) → requests_of 2 (slice_get (startup 3 (request.Read (idn 22) 7) ∷ []) n) ≡ None
        past_list zero = refl
        past_list (suc n) = refl

        either : (b : Bool) → requests_of 2 (slice_get (if b then waiting else startup 3 (request.Read (idn 22) 7) ∷ []) i) ≡ None
        either true = none_waiting waiting 2 i all (λ e. omega (arith, e))
        either false = past_list i

    by_first : (o : Option Outcome) (i : ℕ) → j ≡ suc (suc i) → requests_of 2 (slice_get (checking 2 127 21 o (checking 3 128 22 (slice_get outcomes (r + 12)) waiting)) j) ≡ None
    by_first None i e = rw e refl
    by_first (Some o) i e = rw e (either (ended_well (bytes_of o)))
      where
        either : (b : Bool) → requests_of 2 (slice_get (if b then checking 3 128 22 (slice_get outcomes (r + 12)) waiting else startup 2 (request.Read (idn 21) 7) ∷ []) (suc i)) ≡ None
        either true = by_second (slice_get outcomes (r + 12)) i
        either false = refl

-- after the reads, if there is a plan
pub planned_task : (s : Known) (p : PlanView) (waiting : List Task) (k : ℕ) (outcomes : List Outcome) (i j : ℕ) → i ≡ reads_count (member s k) + j →
    slice_get (agenda s (Some p) waiting k outcomes) i ≡ slice_get (map (startup 2) (writes s p k) ++ checks (reads_count (member s k)) waiting outcomes) j
planned_task s p waiting k outcomes i j e = next_behind s (Some p) waiting k outcomes i j e

writes_length : (s : Known) (p : PlanView) (k : ℕ) → length (map (startup 2) (writes s p k)) ≡ 11
writes_length s p k = refl

-- the task after the reads, by its number there
at_write : (s : Known) (p : PlanView) (waiting : List Task) (k j : ℕ) (outcomes : List Outcome) → j < 11 →
    requests_of 2 (slice_get (map (startup 2) (writes s p k) ++ checks (reads_count (member s k)) waiting outcomes) j) ≡ option_map (startup 2) (slice_get (writes s p k) j)
at_write s p waiting k j outcomes h =
    ap (requests_of 2) (get_left (map (startup 2) (writes s p k)) (checks (reads_count (member s k)) waiting outcomes) j h ∙ get_map (startup 2) (writes s p k) j)
    ∙ startups (slice_get (writes s p k) j)

pub at_check : (s : Known) (p : PlanView) (waiting : List Task) (k j i : ℕ) (outcomes : List Outcome) → j ≡ 11 + i →
    slice_get (map (startup 2) (writes s p k) ++ checks (reads_count (member s k)) waiting outcomes) j ≡ slice_get (checks (reads_count (member s k)) waiting outcomes) i
at_check s p waiting k j i outcomes e = get_right (map (startup 2) (writes s p k)) (checks (reads_count (member s k)) waiting outcomes) j i e

pub behind_2 : (s : Known) (p : PlanView) (waiting : List Task) (k : ℕ) (outcomes : List Outcome) (done j : ℕ) (checked : Bool) → reads_count (member s k) ≤ 38 → AreWaiting waiting →
    done ≡ min (length outcomes) 100 → checked ≡ is_checked (member s k) outcomes → length outcomes ≡ reads_count (member s k) + j →
    requests_of 2 (slice_get (map (startup 2) (writes s p k) ++ checks (reads_count (member s k)) waiting outcomes) j)
    ≡ option_map (startup 2) (if (done == reads_count (member s k) + 12) && not checked then Some (request.Read (idn 21) 7) else next_write s (Some p) k (done - reads_count (member s k)))
behind_2 s p waiting k outcomes done j checked few all is well l = by (nat_lt j 11) (j == 11) (j == 12) refl refl refl
  where
    by : (writing first second : Bool) → nat_lt j 11 ≡ writing → (j == 11) ≡ first → (j == 12) ≡ second →
        requests_of 2 (slice_get (map (startup 2) (writes s p k) ++ checks (reads_count (member s k)) waiting outcomes) j)
        ≡ option_map (startup 2) (if (done == reads_count (member s k) + 12) && not checked then Some (request.Read (idn 21) 7) else next_write s (Some p) k (done - reads_count (member s k)))
    by true first second e f g =
        let small : j < 11 = grind (arith, nat_tests, e) in
        let n : (done == reads_count (member s k) + 12) ≡ false = grind (arith, nat_tests, is, l, small, few) in
        let d : done - reads_count (member s k) ≡ j = omega (arith, is, l, small, few) in
        rw (n, d, e) (at_write s p waiting k j outcomes small)
    by false true second e f g =
        let here : j ≡ 11 = grind (arith, nat_tests, f) in
        let n : (done == reads_count (member s k) + 12) ≡ false = grind (arith, nat_tests, is, l, here, few) in
        let d : done - reads_count (member s k) ≡ 11 = omega (arith, is, l, here, few) in
        rw (n, d) (ap (requests_of 2) (at_check s p waiting k j 0 outcomes (omega (arith, here)) ∙ first_check (reads_count (member s k)) waiting outcomes))
    by false false true e f g =
        let here : j ≡ 12 = grind (arith, nat_tests, g) in
        let n : (done == reads_count (member s k) + 12) ≡ true = grind (arith, nat_tests, is, l, here, few) in
        let d : done - reads_count (member s k) ≡ 12 = omega (arith, is, l, here, few) in
        rw (n, d) (ap (requests_of 2) (at_check s p waiting k j 1 outcomes (omega (arith, here)) ∙ second_check (reads_count (member s k)) waiting outcomes checked (omega (arith, l, here)) (sym well)) ∙ either checked)
      where
        either : (b : Bool) → requests_of 2 (Some (if b then startup 3 (request.Command (idn 128)) else startup 2 (request.Read (idn 21) 7)))
            ≡ option_map (startup 2) (if not b then Some (request.Read (idn 21) 7) else None)
        either true = refl
        either false = refl
    by false false false e f g =
        let far : 13 ≤ j = grind (arith, nat_tests, e, f, g) in
        let n : (done == reads_count (member s k) + 12) ≡ false = grind (arith, nat_tests, is, l, far, few) in
        let m : nat_lt (done - reads_count (member s k)) 11 ≡ false = grind (arith, nat_tests, is, l, far, few) in
        let o : (done - reads_count (member s k) == 11) ≡ false = grind (arith, nat_tests, is, l, far, few) in
        rw (n, m, o) (ap (requests_of 2) (at_check s p waiting k j (j - 11) outcomes (omega (arith, far))) ∙ later_check (reads_count (member s k)) (j - 11) waiting outcomes all (omega (arith, far)))

pub next_2 : (s : Known) (plan : Option PlanView) (waiting : List Task) (k : ℕ) (outcomes : List Outcome) (done : ℕ) (checked : Bool) → reads_count (member s k) ≤ 38 → AreWaiting waiting →
    done ≡ min (length outcomes) 100 → checked ≡ is_checked (member s k) outcomes →
    requests_of 2 (slice_get (agenda s plan waiting k outcomes) (length outcomes)) ≡ option_map (startup 2) (next_in_2 s plan k done checked)
next_2 s plan waiting k outcomes done checked few all is well = by (nat_lt done (reads_count (member s k))) plan refl
  where
    by : (reading : Bool) (plan : Option PlanView) → nat_lt done (reads_count (member s k)) ≡ reading →
        requests_of 2 (slice_get (agenda s plan waiting k outcomes) (length outcomes)) ≡ option_map (startup 2) (next_in_2 s plan k done checked)
    by true plan e =
        let below : length outcomes < reads_count (member s k) = grind (arith, nat_tests, e, is, few) in
        let same : done ≡ length outcomes = omega (arith, is, below, few) in
        rw e (kept_reads s plan waiting k outcomes below ∙ ap (λ i. option_map (startup 2) (slice_get (reads (member s k)) i)) (sym same))
    by false None e =
        let behind : reads_count (member s k) ≤ length outcomes = grind (arith, nat_tests, e, is, few) in
        rw (e, next_behind s None waiting k outcomes (length outcomes) (length outcomes - reads_count (member s k)) (omega (arith, behind)), and_false (done == reads_count (member s k) + 12)) refl
    by false (Some p) e =
        let behind : reads_count (member s k) ≤ length outcomes = grind (arith, nat_tests, e, is, few) in
        rw (e, planned_task s p waiting k outcomes (length outcomes) (length outcomes - reads_count (member s k)) (omega (arith, behind)))
        (behind_2 s p waiting k outcomes done (length outcomes - reads_count (member s k)) checked few all is well (omega (arith, behind)))

-- what an idle channel begins in phase 2, by what its seat keeps
pub begins_2 : (v : SeatView) (x : Seen) (s : Known) (plan : Option PlanView) (waiting : List Task) (k : ℕ) → reads_count (member s k) ≤ 38 → AreWaiting waiting →
    SeatStandsFor v (member s k) x → is_idle_in x ≡ true →
    (if is_idle_in x then of_phase 2 (slice_get (agenda s plan waiting k (outcomes_seen x)) (length (outcomes_seen x))) else None)
    ≡ option_map (startup 2) (next_in_2 s plan k v.done v.checked)
begins_2 v x s plan waiting k few all stands idle =
    rw idle (next_2 s plan waiting k (outcomes_seen x) v.done v.checked few all stands.done_is stands.checked_is)

-- PHASE 3. A task of phase 2 is passed over.
no_startups : (r : Option Request) → requests_of 3 (option_map (startup 2) r) ≡ None
no_startups None = refl
no_startups (Some r) = refl

third_check : (r : ℕ) (waiting : List Task) (outcomes : List Outcome) (well ready : Bool) → AreWaiting waiting → length outcomes ≡ r + 13 →
    ended_well (given outcomes (r + 11)) ≡ well → (ended_well (given outcomes (r + 11)) && ended_well (given outcomes (r + 12))) ≡ ready →
    requests_of 3 (slice_get (checks r waiting outcomes) 2) ≡ (if well && not ready then Some (startup 3 (request.Read (idn 22) 7)) else None)
third_check r waiting outcomes well ready all l e f = by (some_below outcomes (r + 11) (omega (arith, l))) (some_below outcomes (r + 12) (omega (arith, l)))
  where
    by : ((o : Outcome) × (slice_get outcomes (r + 11) ≡ Some o)) → ((o : Outcome) × (slice_get outcomes (r + 12) ≡ Some o)) →
        requests_of 3 (slice_get (checks r waiting outcomes) 2) ≡ (if well && not ready then Some (startup 3 (request.Read (idn 22) 7)) else None)
    by one two =
        let g : ended_well (bytes_of one.0) ≡ ended_well (given outcomes (r + 11)) = ap ended_well (sym (given_some outcomes (r + 11) one.0 one.1)) in
        let h : ended_well (bytes_of two.0) ≡ ended_well (given outcomes (r + 12)) = ap ended_well (sym (given_some outcomes (r + 12) two.0 two.1)) in
        rw (one.1, two.1, g, h, ← f, ← e) (either (ended_well (given outcomes (r + 11))) (ended_well (given outcomes (r + 12))))
      where
        either : (a b : Bool) → requests_of 3 (slice_get (if a then startup 3 (request.Command (idn 128)) ∷ (if b then waiting else startup 3 (request.Read (idn 22) 7) ∷ []) else startup 2 (request.Read (idn 21) 7) ∷ []) 1)
            ≡ (if a && not (a && b) then Some (startup 3 (request.Read (idn 22) 7)) else None)
        either false b = refl
        either true true = none_waiting waiting 3 0 all (λ k. omega (arith, k))
        either true false = refl

last_check : (r j : ℕ) (waiting : List Task) (outcomes : List Outcome) → AreWaiting waiting → 3 ≤ j → requests_of 3 (slice_get (checks r waiting outcomes) j) ≡ None
last_check r j waiting outcomes all h = by_first (slice_get outcomes (r + 11)) (j - 3) (omega (arith, h))
  where
    by_second : (o : Option Outcome) (i : ℕ) → requests_of 3 (slice_get (checking 3 128 22 o waiting) (suc (suc i))) ≡ None
    by_second None i = refl
    by_second (Some o) i = either (ended_well (bytes_of o))
      where
        either : (b : Bool) → requests_of 3 (slice_get (if b then waiting else startup 3 (request.Read (idn 22) 7) ∷ []) (suc i)) ≡ None
        either true = none_waiting waiting 3 (suc i) all (λ e. omega (arith, e))
        either false = refl

    by_first : (o : Option Outcome) (i : ℕ) → j ≡ suc (suc (suc i)) → requests_of 3 (slice_get (checking 2 127 21 o (checking 3 128 22 (slice_get outcomes (r + 12)) waiting)) j) ≡ None
    by_first None i e = rw e refl
    by_first (Some o) i e = rw e (either (ended_well (bytes_of o)))
      where
        either : (b : Bool) → requests_of 3 (slice_get (if b then checking 3 128 22 (slice_get outcomes (r + 12)) waiting else startup 2 (request.Read (idn 21) 7) ∷ []) (suc (suc i))) ≡ None
        either true = by_second (slice_get outcomes (r + 12)) i
        either false = refl

-- a check that has ended well has ended
pub ended_there : (outcomes : List Outcome) (i : ℕ) → ended_well (given outcomes i) ≡ true → i < length outcomes
ended_there [] i e = absurd (false≢true e)
ended_there (o ∷ outcomes) zero e = omega arith
ended_there (o ∷ outcomes) (suc i) e = let h : i < length outcomes = ended_there outcomes i e in omega (arith, h)

pub not_checked : (outcomes : List Outcome) (i : ℕ) → length outcomes ≤ i → ended_well (given outcomes i) ≡ false
not_checked [] i h = refl
not_checked (o ∷ outcomes) zero h = absurd (omega (arith, h))
not_checked (o ∷ outcomes) (suc i) h = not_checked outcomes i (omega (arith, h))

behind_3 : (s : Known) (p : PlanView) (waiting : List Task) (k : ℕ) (outcomes : List Outcome) (done j : ℕ) (checked ready : Bool) → reads_count (member s k) ≤ 38 → AreWaiting waiting →
    done ≡ min (length outcomes) 100 → checked ≡ is_checked (member s k) outcomes → ready ≡ is_ready (member s k) outcomes → length outcomes ≡ reads_count (member s k) + j →
    requests_of 3 (slice_get (map (startup 2) (writes s p k) ++ checks (reads_count (member s k)) waiting outcomes) j)
    ≡ option_map (startup 3) (next_in_3 (reads_count (member s k)) true done checked ready)
behind_3 s p waiting k outcomes done j checked ready few all is well both l = by (nat_lt j 11) (j == 11) (j == 12) (j == 13) refl refl refl refl
  where
    unchecked : length outcomes ≤ reads_count (member s k) + 11 → checked ≡ false
    unchecked h = well ∙ not_checked outcomes (reads_count (member s k) + 11) h

    by : (writing first second third : Bool) → nat_lt j 11 ≡ writing → (j == 11) ≡ first → (j == 12) ≡ second → (j == 13) ≡ third →
        requests_of 3 (slice_get (map (startup 2) (writes s p k) ++ checks (reads_count (member s k)) waiting outcomes) j)
        ≡ option_map (startup 3) (next_in_3 (reads_count (member s k)) true done checked ready)
    by true first second third e f g h =
        let small : j < 11 = grind (arith, nat_tests, e) in
        rw (unchecked (omega (arith, l, small)))
        (ap (requests_of 3) (get_left (map (startup 2) (writes s p k)) (checks (reads_count (member s k)) waiting outcomes) j small ∙ get_map (startup 2) (writes s p k) j) ∙ no_startups (slice_get (writes s p k) j))
    by false true second third e f g h =
        let here : j ≡ 11 = grind (arith, nat_tests, f) in
        rw (unchecked (omega (arith, l, here)))
        (ap (requests_of 3) (at_check s p waiting k j 0 outcomes (omega (arith, here)) ∙ first_check (reads_count (member s k)) waiting outcomes))
    by false false true third e f g h =
        let here : j ≡ 12 = grind (arith, nat_tests, g) in
        let n : (done == reads_count (member s k) + 12) ≡ true = grind (arith, nat_tests, is, l, here, few) in
        rw n (ap (requests_of 3) (at_check s p waiting k j 1 outcomes (omega (arith, here)) ∙ second_check (reads_count (member s k)) waiting outcomes checked (omega (arith, l, here)) (sym well)) ∙ either checked)
      where
        either : (b : Bool) → requests_of 3 (Some (if b then startup 3 (request.Command (idn 128)) else startup 2 (request.Read (idn 21) 7)))
            ≡ option_map (startup 3) (if b then Some (request.Command (idn 128)) else None)
        either true = refl
        either false = refl
    by false false false true e f g h =
        let here : j ≡ 13 = grind (arith, nat_tests, h) in
        let n : (done == reads_count (member s k) + 12) ≡ false = grind (arith, nat_tests, is, l, here, few) in
        let m : (done == reads_count (member s k) + 13) ≡ true = grind (arith, nat_tests, is, l, here, few) in
        rw (n, m) (ap (requests_of 3) (at_check s p waiting k j 2 outcomes (omega (arith, here))) ∙ (third_check (reads_count (member s k)) waiting outcomes checked ready all (omega (arith, l, here)) (sym well) (sym both) ∙ either checked ready))
      where
        either : (a b : Bool) → (if a && not b then Some (startup 3 (request.Read (idn 22) 7)) else None) ≡ option_map (startup 3) (if a then (if not b then Some (request.Read (idn 22) 7) else None) else None)
        either true true = refl
        either true false = refl
        either false b = refl
    by false false false false e f g h =
        let far : 14 ≤ j = grind (arith, nat_tests, e, f, g, h) in
        let n : (done == reads_count (member s k) + 12) ≡ false = grind (arith, nat_tests, is, l, far, few) in
        let m : (done == reads_count (member s k) + 13) ≡ false = grind (arith, nat_tests, is, l, far, few) in
        rw (n, m) (ap (requests_of 3) (at_check s p waiting k j (j - 11) outcomes (omega (arith, far))) ∙ (last_check (reads_count (member s k)) (j - 11) waiting outcomes all (omega (arith, far)) ∙ either checked))
      where
        either : (a : Bool) → None ≡ option_map (startup 3) (if a then None else None)
        either true = refl
        either false = refl

pub next_3 : (s : Known) (plan : Option PlanView) (waiting : List Task) (k : ℕ) (outcomes : List Outcome) (done : ℕ) (checked ready : Bool) → reads_count (member s k) ≤ 38 → AreWaiting waiting →
    done ≡ min (length outcomes) 100 → checked ≡ is_checked (member s k) outcomes → ready ≡ is_ready (member s k) outcomes →
    requests_of 3 (slice_get (agenda s plan waiting k outcomes) (length outcomes)) ≡ option_map (startup 3) (next_in_3 (reads_count (member s k)) (is_some plan) done checked ready)
next_3 s plan waiting k outcomes done checked ready few all is well both = by (nat_lt (length outcomes) (reads_count (member s k))) plan refl
  where
    by : (reading : Bool) (plan : Option PlanView) → nat_lt (length outcomes) (reads_count (member s k)) ≡ reading →
        requests_of 3 (slice_get (agenda s plan waiting k outcomes) (length outcomes)) ≡ option_map (startup 3) (next_in_3 (reads_count (member s k)) (is_some plan) done checked ready)
    by true plan e =
        let below : length outcomes < reads_count (member s k) = grind (arith, nat_tests, e) in
        let none : checked ≡ false = well ∙ not_checked outcomes (reads_count (member s k) + 11) (omega (arith, below)) in
        rw (none, and_false (is_some plan), next_read s plan waiting k outcomes (length outcomes) below) (no_startups (slice_get (reads (member s k)) (length outcomes)))
    by false None e =
        let behind : reads_count (member s k) ≤ length outcomes = grind (arith, nat_tests, e) in
        rw (next_behind s None waiting k outcomes (length outcomes) (length outcomes - reads_count (member s k)) (omega (arith, behind))) refl
    by false (Some p) e =
        let behind : reads_count (member s k) ≤ length outcomes = grind (arith, nat_tests, e) in
        rw (planned_task s p waiting k outcomes (length outcomes) (length outcomes - reads_count (member s k)) (omega (arith, behind)))
        (behind_3 s p waiting k outcomes done (length outcomes - reads_count (member s k)) checked ready few all is well both (omega (arith, behind)))

-- what an idle channel begins in phase 3, by what its seat keeps
pub begins_3 : (v : SeatView) (x : Seen) (s : Known) (plan : Option PlanView) (waiting : List Task) (k : ℕ) → AreWaiting waiting →
    SeatStandsFor v (member s k) x → is_idle_in x ≡ true →
    (if is_idle_in x then of_phase 3 (slice_get (agenda s plan waiting k (outcomes_seen x)) (length (outcomes_seen x))) else None)
    ≡ option_map (startup 3) (next_in_3 (reads_count v.member) (is_some plan) v.done v.checked v.ready)
begins_3 v x s plan waiting k all stands idle =
    rw (idle, stands.member_is) (next_3 s plan waiting k (outcomes_seen x) v.done v.checked v.ready stands.few all stands.done_is stands.checked_is stands.ready_is)
