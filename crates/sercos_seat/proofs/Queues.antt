-- The requests that wait, after what a channel hears and begins.
use Rattle.std.proofs.Common.{◌≡◌, ℕ, zero, suc, ◌+◌, ◌<◌, ◌≤◌, ◌==◌, Bool, true, false, List, [], ◌∷◌, ◌++◌, Option, Some, None, length, ap, refl, sym, ◌∙◌, arith, subst, if◌then◌else◌, inl, inr, ◌⊎◌}
use Rattle.std.proofs.lemmas.Bool.Decides.{nat_tests}
use Rattle.std.specs.Prelude.{◌-◌, min, nat_lt, is_some, is_none, map, drop, reverse, slice_get, ◌&&◌, option_map, unwrap_or}
use Rattle.std.proofs.lemmas.Bool.{false≢true}
use Rattle.std.proofs.lemmas.List.{reverse-append}
use Rattle.std.proofs.lemmas.Option.{none-some}
use Rattle.sercos_step.specs.declared.request.Outcome.{Outcome}
use Rattle.sercos_step.specs.declared.request.Request.{Request}
use Rattle.sercos_step.specs.declared.request.Request.TheVariants as request
use Rattle.sercos_service_master.specs.Begun.{open_in}
use Rattle.sercos_service_master.specs.Calls.{Begin, begun_by}
use Rattle.sercos_timing.specs.Views.{PlanView}
use Rattle.sercos_seat.specs.declared.queue.Waiting.{Waiting}
use Rattle.sercos_seat.specs.Ring.{Known, MemberView, Task, member, startup}
use Rattle.sercos_seat.specs.Agenda.{idn, agenda, reads, writes, checking, given, ended_well, bytes_of, reads_count, is_ready}
use Rattle.sercos_seat.specs.Channel.{count_requests, of_phase}
use Rattle.sercos_seat.specs.Seats.{next_write, next_in_2, next_in_3, Seen, SeatView, SeatStandsFor, IsQueue, waiting_task, left_in, is_idle_in, outcomes_seen, begun_in, nothing_seen}
use Rattle.sercos_seat.proofs.Seats.{length_more, before_end}
use Rattle.sercos_seat.proofs.Agendas.{ended_there, planned_task, at_check, checks}

both_well : (d : MemberView) (outcomes : List Outcome) → is_ready d outcomes ≡ true →
    (ended_well (given outcomes (reads_count d + 11)) ≡ true) × (ended_well (given outcomes (reads_count d + 12)) ≡ true)
both_well d outcomes e = by (ended_well (given outcomes (reads_count d + 11))) (ended_well (given outcomes (reads_count d + 12))) e
  where
    by : (a b : Bool) → (a && b) ≡ true → (a ≡ true) × (b ≡ true)
    by true true e = (refl, refl)
    by true false e = absurd (false≢true e)
    by false b e = absurd (false≢true e)

-- both checks come after the start-up
pub ready_long : (d : MemberView) (outcomes : List Outcome) → is_ready d outcomes ≡ true → reads_count d + 12 < length outcomes
ready_long d outcomes e = ended_there outcomes (reads_count d + 12) (both_well d outcomes e).1

-- where they have ended, one outcome more changes nothing
pub ready_stays : (d : MemberView) (outcomes : List Outcome) (o : Outcome) → reads_count d + 12 < length outcomes → is_ready d (outcomes ++ o ∷ []) ≡ is_ready d outcomes
ready_stays d outcomes o long =
    let a : given (outcomes ++ o ∷ []) (reads_count d + 11) ≡ given outcomes (reads_count d + 11) = before_end outcomes o (reads_count d + 11) (λ e. omega (arith, long, e)) in
    let b : given (outcomes ++ o ∷ []) (reads_count d + 12) ≡ given outcomes (reads_count d + 12) = before_end outcomes o (reads_count d + 12) (λ e. omega (arith, long, e)) in
    rw (a, b) refl

pub queue_more : (kept : List Waiting) (d : MemberView) (x y : Seen) (o : Outcome) → IsQueue kept d x → y.tasks ≡ x.tasks → y.waiting ≡ x.waiting →
    outcomes_seen y ≡ outcomes_seen x ++ o ∷ [] → is_idle_in x ≡ false → is_idle_in y ≡ true → IsQueue kept d y
queue_more kept d x y o q tasks waits more opened closed = record {
  order = rw (tasks, waits) q.order;
  none = λ e. rw tasks (by_none (is_ready d (outcomes_seen x)) refl e);
  count = λ e. rw (more, closed, tasks, length_more (outcomes_seen x) o) (by_count (is_ready d (outcomes_seen x)) refl (rw more at e));
}
  where
    by_none : (b : Bool) → is_ready d (outcomes_seen x) ≡ b → is_ready d (outcomes_seen y) ≡ false → count_requests x.tasks ≡ 0
    by_none true f e = absurd (false≢true (sym e ∙ (ap (is_ready d) more ∙ (ready_stays d (outcomes_seen x) o (ready_long d (outcomes_seen x) f) ∙ f))))
    by_none false f e = q.none f

    by_count : (b : Bool) → is_ready d (outcomes_seen x) ≡ b → is_ready d (outcomes_seen x ++ o ∷ []) ≡ true → length (outcomes_seen x) + 1 + 0 ≡ reads_count d + 13 + count_requests x.tasks
    by_count true f e =
        let c : length (outcomes_seen x) + 1 ≡ reads_count d + 13 + count_requests x.tasks = subst (λ b. length (outcomes_seen x) + (if b then 0 else 1) ≡ reads_count d + 13 + count_requests x.tasks) opened (q.count f) in
        omega (arith, c)
    by_count false f e =
        let l : reads_count d + 12 < length (outcomes_seen x ++ o ∷ []) = ready_long d (outcomes_seen x ++ o ∷ []) e in
        let m : length (outcomes_seen x ++ o ∷ []) ≡ length (outcomes_seen x) + 1 = length_more (outcomes_seen x) o in
        let short : reads_count d + 12 < length (outcomes_seen x) → ⊥ = λ long. false≢true (sym f ∙ (sym (ready_stays d (outcomes_seen x) o long) ∙ e)) in
        let n : count_requests x.tasks ≡ 0 = q.none f in
        elim (at_most (length (outcomes_seen x)) (reads_count d + 12)) [
          | inl long ↦ absurd (short long)
          | inr h ↦ omega (arith, l, m, n, h)
        ]
      where
        at_most : (a b : ℕ) → (b < a) ⊎ (a ≤ b)
        at_most a b = by (nat_lt b a) refl
          where
            by : (t : Bool) → nat_lt b a ≡ t → (b < a) ⊎ (a ≤ b)
            by true e = inl (grind (arith, nat_tests, e))
            by false e = inr (grind (arith, nat_tests, e))

pub queue_same : (kept : List Waiting) (d : MemberView) (x y : Seen) → IsQueue kept d x → y.tasks ≡ x.tasks → y.waiting ≡ x.waiting →
    outcomes_seen y ≡ outcomes_seen x → is_idle_in y ≡ is_idle_in x → IsQueue kept d y
queue_same kept d x y q tasks waits same idle = record {
  order = rw (tasks, waits) q.order;
  none = λ e. rw tasks (q.none (rw same at e));
  count = λ e. rw (same, idle, tasks) (q.count (rw same at e));
}

-- a request begins with a step
opens : (r : Request) (calls : List Rattle.sercos_service_master.specs.Calls.Call) → is_none (open_in (begun_by (Begin r ∷ calls))) ≡ false
opens (request.Read i e) calls = refl
opens (request.Write i e bytes) calls = refl
opens (request.Command i) calls = refl

-- a task of the start-up is begun
pub queue_startup : (kept : List Waiting) (d : MemberView) (x : Seen) (t : Task) → IsQueue kept d x → is_ready d (outcomes_seen x) ≡ false → t.number ≡ None → IsQueue kept d (begun_in t x)
queue_startup kept d x t q not_ready no_number = record {
  order = rw no_number q.order;
  none = λ e. rw no_number (q.none e);
  count = λ e. absurd (false≢true (sym not_ready ∙ e));
}

tasks_last : (kept : List Waiting) (w : Waiting) → map waiting_task (reverse (kept ++ w ∷ [])) ≡ waiting_task w ∷ map waiting_task (reverse kept)
tasks_last kept w = ap (map waiting_task) (reverse-append kept (w ∷ []))

-- one request more waits, before nothing was seen
pub queue_wait : (kept : List Waiting) (d : MemberView) (waiting : List Task) (w : Waiting) → IsQueue kept d (nothing_seen waiting) →
    IsQueue (kept ++ w ∷ []) d (nothing_seen (waiting_task w ∷ waiting))
queue_wait kept d waiting w q = record {
  order = tasks_last kept w ∙ ap (λ ts. waiting_task w ∷ ts) q.order;
  none = q.none;
  count = q.count;
}

pub waits : (v : SeatView) (d : MemberView) (waiting : List Task) (w : Waiting) → SeatStandsFor v d (nothing_seen waiting) →
    SeatStandsFor (record v { waiting = v.waiting ++ w ∷ [] }) d (nothing_seen (waiting_task w ∷ waiting))
waits v d waiting w t = record {
  member_is = t.member_is;
  few = t.few;
  channel_is = t.channel_is;
  begun_is = t.begun_is;
  done_is = t.done_is;
  given_is = t.given_is;
  checked_is = t.checked_is;
  ready_is = t.ready_is;
  asked_is = t.asked_is;
  number_is = t.number_is;
  trouble_is = t.trouble_is;
  report_is = t.report_is;
  heard_is = t.heard_is;
  missed_is = t.missed_is;
  identified_is = t.identified_is;
  queue = queue_wait v.waiting d waiting w t.queue;
}

-- the first of the tasks that are left
drop_first : (n : ℕ) (xs : List Task) (t : Task) (rest : List Task) → t ∷ rest ≡ drop n xs → (rest ≡ drop (n + 1) xs) × (slice_get xs n ≡ Some t)
drop_first zero [] t rest e = cc
drop_first zero (x ∷ xs) t rest e = (ap (drop 1) e, ap (λ ys. slice_get ys 0) (sym e))
drop_first (suc n) [] t rest e = cc
drop_first (suc n) (x ∷ xs) t rest e = let f : suc n + 1 ≡ suc (n + 1) = omega arith in rw f (drop_first n xs t rest e)

-- the request that waits first is begun
pub queue_next : (kept rest : List Waiting) (w : Waiting) (d : MemberView) (x : Seen) → IsQueue kept d x → kept ≡ rest ++ w ∷ [] → is_ready d (outcomes_seen x) ≡ true → is_idle_in x ≡ true →
    IsQueue rest d (begun_in (waiting_task w) x) × (slice_get x.waiting (count_requests x.tasks) ≡ Some (waiting_task w))
queue_next kept rest w d x q is ready idle =
    let order : waiting_task w ∷ map waiting_task (reverse rest) ≡ left_in x = sym (tasks_last rest w) ∙ (ap (λ k. map waiting_task (reverse k)) (sym is) ∙ q.order) in
    let first = drop_first (count_requests x.tasks) x.waiting (waiting_task w) (map waiting_task (reverse rest)) order in
    let c : length (outcomes_seen x) + 0 ≡ reads_count d + 13 + count_requests x.tasks = subst (λ b. length (outcomes_seen x) + (if b then 0 else 1) ≡ reads_count d + 13 + count_requests x.tasks) idle (q.count ready) in (
      record {
        order = first.0;
        none = λ e. absurd (false≢true (sym e ∙ ready));
        count = λ e. rw (opens w.request x.calls) (omega (arith, c));
      },
      first.1,
    )

-- the agenda goes on with what waits
pub next_request : (s : Known) (plan : PlanView) (waiting : List Task) (k : ℕ) (outcomes : List Outcome) (j : ℕ) → is_ready (member s k) outcomes ≡ true → length outcomes ≡ reads_count (member s k) + 13 + j →
    slice_get (agenda s (Some plan) waiting k outcomes) (length outcomes) ≡ slice_get waiting j
next_request s plan waiting k outcomes j ready l =
    planned_task s plan waiting k outcomes (length outcomes) (13 + j) (omega (arith, l))
    ∙ (at_check s plan waiting k (13 + j) (2 + j) outcomes (omega arith) ∙ behind (both_well (member s k) outcomes ready))
  where
    behind : (ended_well (given outcomes (reads_count (member s k) + 11)) ≡ true) × (ended_well (given outcomes (reads_count (member s k) + 12)) ≡ true) →
        slice_get (checks (reads_count (member s k)) waiting outcomes) (2 + j) ≡ slice_get waiting j
    behind well = by (slice_get outcomes (reads_count (member s k) + 11)) (slice_get outcomes (reads_count (member s k) + 12)) well.0 well.1
      where
        by : (a b : Option Outcome) → ended_well (unwrap_or (option_map bytes_of a) []) ≡ true → ended_well (unwrap_or (option_map bytes_of b) []) ≡ true →
            slice_get (checking 2 127 21 a (checking 3 128 22 b waiting)) (2 + j) ≡ slice_get waiting j
        by None b e f = absurd (false≢true e)
        by (Some a) None e f = absurd (false≢true f)
        by (Some a) (Some b) e f = let g : 2 + j ≡ suc (suc j) = omega arith in rw (e, f, g) refl

-- what the start-up begins comes before both checks have ended well
late_write : (s : Known) (plan : Option PlanView) (k i : ℕ) → 12 ≤ i → next_write s plan k i ≡ None
late_write s None k i h = refl
late_write s (Some p) k i h =
    let a : nat_lt i 11 ≡ false = grind (arith, nat_tests, h) in
    let b : (i == 11) ≡ false = grind (arith, nat_tests, h) in
    rw (a, b) refl

late_2 : (s : Known) (plan : Option PlanView) (k done : ℕ) (checked : Bool) → reads_count (member s k) + 13 ≤ done → next_in_2 s plan k done checked ≡ None
late_2 s plan k done checked h =
    let a : nat_lt done (reads_count (member s k)) ≡ false = grind (arith, nat_tests, h) in
    let b : (done == reads_count (member s k) + 12) ≡ false = grind (arith, nat_tests, h) in
    rw (a, b) (late_write s plan k (done - reads_count (member s k)) (omega (arith, h)))

late_3 : (reads done : ℕ) (planned checked : Bool) → reads + 13 ≤ done → next_in_3 reads planned done checked true ≡ None
late_3 reads done planned checked h = by (planned && checked) (done == reads + 13)
  where
    by : (a b : Bool) → (if a then (if done == reads + 12 then Some (request.Command (idn 128)) else (if b && false then Some (request.Read (idn 22) 7) else None)) else None) ≡ None
    by false b = refl
    by true true = let e : (done == reads + 12) ≡ false = grind (arith, nat_tests, h) in rw e refl
    by true false = let e : (done == reads + 12) ≡ false = grind (arith, nat_tests, h) in rw e refl

done_late : (v : SeatView) (d : MemberView) (x : Seen) → SeatStandsFor v d x → is_ready d (outcomes_seen x) ≡ true → reads_count d + 13 ≤ v.done
done_late v d x stands e =
    let l : reads_count d + 12 < length (outcomes_seen x) = ready_long d (outcomes_seen x) e in
    let n : v.done ≡ min (length (outcomes_seen x)) 100 = stands.done_is in
    let few : reads_count d ≤ 38 = stands.few in
    omega (arith, l, n, few)

pub unready_2 : (v : SeatView) (x : Seen) (s : Known) (plan : Option PlanView) (k : ℕ) (r : Request) → SeatStandsFor v (member s k) x → next_in_2 s plan k v.done v.checked ≡ Some r →
    is_ready (member s k) (outcomes_seen x) ≡ false
unready_2 v x s plan k r stands e = by (is_ready (member s k) (outcomes_seen x)) refl
  where
    by : (b : Bool) → is_ready (member s k) (outcomes_seen x) ≡ b → b ≡ false
    by true f = absurd (none-some _ (sym (late_2 s plan k v.done v.checked (done_late v (member s k) x stands f)) ∙ e))
    by false f = refl

pub unready_3 : (v : SeatView) (x : Seen) (s : Known) (k : ℕ) (planned : Bool) (r : Request) → SeatStandsFor v (member s k) x → next_in_3 (reads_count v.member) planned v.done v.checked v.ready ≡ Some r →
    is_ready (member s k) (outcomes_seen x) ≡ false
unready_3 v x s k planned r stands e = by (is_ready (member s k) (outcomes_seen x)) refl
  where
    by : (b : Bool) → is_ready (member s k) (outcomes_seen x) ≡ b → b ≡ false
    by true f =
        let is : v.ready ≡ true = stands.ready_is ∙ f in
        let late : reads_count v.member + 13 ≤ v.done = rw stands.member_is (done_late v (member s k) x stands f) in
        absurd (none-some _ (sym (late_3 (reads_count v.member) v.done planned v.checked late) ∙ rw is at e))
    by false f = refl

-- what an idle channel begins in phase 4, by what its seat keeps
pub begins_4 : (s : Known) (k : ℕ) (x : Seen) (plan : PlanView) (t : Task) → is_idle_in x ≡ true → is_ready (member s k) (outcomes_seen x) ≡ true →
    length (outcomes_seen x) ≡ reads_count (member s k) + 13 + count_requests x.tasks → slice_get x.waiting (count_requests x.tasks) ≡ Some t → t.phase ≡ 4 →
    (if is_idle_in x then of_phase 4 (slice_get (agenda s (Some plan) x.waiting k (outcomes_seen x)) (length (outcomes_seen x))) else None) ≡ Some t
begins_4 s k x plan t idle ready l there four =
    let e : slice_get (agenda s (Some plan) x.waiting k (outcomes_seen x)) (length (outcomes_seen x)) ≡ Some t = next_request s plan x.waiting k (outcomes_seen x) (count_requests x.tasks) ready l ∙ there in
    let f : (t.phase == 4) ≡ true = rw four refl in
    rw (idle, e, f) refl

-- without both checks nothing of phase 4 comes
abbrev HasNo4 : List Task → Type 0
HasNo4 tasks = (i : ℕ) → of_phase 4 (slice_get tasks i) ≡ None

no_4_both : (xs ys : List Task) → HasNo4 xs → HasNo4 ys → HasNo4 (xs ++ ys)
no_4_both [] ys none all i = all i
no_4_both (x ∷ xs) ys none all zero = none 0
no_4_both (x ∷ xs) ys none all (suc i) = no_4_both xs ys (λ j. none (suc j)) all i

no_4_nil : HasNo4 []
no_4_nil i = refl

no_4_more : (phase : ℕ) (r : Request) (xs : List Task) → (phase == 4) ≡ false → HasNo4 xs → HasNo4 (startup phase r ∷ xs)
no_4_more phase r xs e none zero = rw e refl
no_4_more phase r xs e none (suc i) = none i

no_4_map : (rs : List Request) → HasNo4 (map (startup 2) rs)
no_4_map [] i = refl
no_4_map (r ∷ rs) i = no_4_more 2 r (map (startup 2) rs) refl (no_4_map rs) i

no_4_checking : (phase command list : ℕ) (o : Option Outcome) (next : List Task) → (phase == 4) ≡ false → (ended_well (unwrap_or (option_map bytes_of o) []) ≡ true → HasNo4 next) → HasNo4 (checking phase command list o next)
no_4_checking phase command list None next e all = no_4_more phase (request.Command (idn command)) [] e no_4_nil
no_4_checking phase command list (Some o) next e all = no_4_more phase (request.Command (idn command)) (if ended_well (bytes_of o) then next else startup phase (request.Read (idn list) 7) ∷ []) e
    (by (ended_well (bytes_of o)) refl)
  where
    by : (b : Bool) → ended_well (bytes_of o) ≡ b → HasNo4 (if b then next else startup phase (request.Read (idn list) 7) ∷ [])
    by true f = all f
    by false f = no_4_more phase (request.Read (idn list) 7) [] e no_4_nil

both_false : (a b : Bool) → (a && b) ≡ false → a ≡ true → b ≡ true → ⊥
both_false true true e f g = false≢true (sym e)
both_false true false e f g = false≢true g
both_false false b e f g = false≢true f

pub none_4 : (s : Known) (plan : Option PlanView) (waiting : List Task) (k : ℕ) (outcomes : List Outcome) → is_ready (member s k) outcomes ≡ false → HasNo4 (agenda s plan waiting k outcomes)
none_4 s None waiting k outcomes e = no_4_both (map (startup 2) (reads (member s k))) [] (no_4_map (reads (member s k))) no_4_nil
none_4 s (Some p) waiting k outcomes e =
    no_4_both (map (startup 2) (reads (member s k))) (map (startup 2) (writes s p k) ++ checks (reads_count (member s k)) waiting outcomes) (no_4_map (reads (member s k)))
    (no_4_both (map (startup 2) (writes s p k)) (checks (reads_count (member s k)) waiting outcomes) (no_4_map (writes s p k))
    (no_4_checking 2 127 21 (slice_get outcomes (reads_count (member s k) + 11)) (checking 3 128 22 (slice_get outcomes (reads_count (member s k) + 12)) waiting) refl
    (λ f. no_4_checking 3 128 22 (slice_get outcomes (reads_count (member s k) + 12)) waiting refl
    (λ g. absurd (both_false (ended_well (given outcomes (reads_count (member s k) + 11))) (ended_well (given outcomes (reads_count (member s k) + 12))) e f g)))))

pub none_planned_4 : (s : Known) (waiting : List Task) (k : ℕ) (outcomes : List Outcome) → HasNo4 (agenda s None waiting k outcomes)
none_planned_4 s waiting k outcomes = no_4_both (map (startup 2) (reads (member s k))) [] (no_4_map (reads (member s k))) no_4_nil

-- what an idle channel begins in phase 4 where there is nothing
pub begins_no_4 : (s : Known) (k : ℕ) (x : Seen) (plan : Option PlanView) → of_phase 4 (slice_get (agenda s plan x.waiting k (outcomes_seen x)) (length (outcomes_seen x))) ≡ None →
    (if is_idle_in x then of_phase 4 (slice_get (agenda s plan x.waiting k (outcomes_seen x)) (length (outcomes_seen x))) else None) ≡ None
begins_no_4 s k x plan e = by (is_idle_in x)
  where
    by : (b : Bool) → (if b then of_phase 4 (slice_get (agenda s plan x.waiting k (outcomes_seen x)) (length (outcomes_seen x))) else None) ≡ None
    by true = e
    by false = refl

drop_nothing : (n : ℕ) (xs : List Task) → [] ≡ drop n xs → slice_get xs n ≡ None
drop_nothing zero [] e = refl
drop_nothing zero (x ∷ xs) e = cc
drop_nothing (suc n) [] e = refl
drop_nothing (suc n) (x ∷ xs) e = drop_nothing n xs e

no_tasks : (kept : List Waiting) → kept ≡ [] → map waiting_task (reverse kept) ≡ []
no_tasks kept e = rw e refl

pub begins_last_4 : (s : Known) (k : ℕ) (x : Seen) (plan : PlanView) (kept : List Waiting) → IsQueue kept (member s k) x → kept ≡ [] → is_idle_in x ≡ true → is_ready (member s k) (outcomes_seen x) ≡ true →
    of_phase 4 (slice_get (agenda s (Some plan) x.waiting k (outcomes_seen x)) (length (outcomes_seen x))) ≡ None
begins_last_4 s k x plan kept q e idle ready =
    let c : length (outcomes_seen x) + 0 ≡ reads_count (member s k) + 13 + count_requests x.tasks = subst (λ b. length (outcomes_seen x) + (if b then 0 else 1) ≡ reads_count (member s k) + 13 + count_requests x.tasks) idle (q.count ready) in
    let none : slice_get x.waiting (count_requests x.tasks) ≡ None = drop_nothing (count_requests x.tasks) x.waiting (sym (no_tasks kept e) ∙ q.order) in
    ap (of_phase 4) (next_request s plan x.waiting k (outcomes_seen x) (count_requests x.tasks) ready (omega (arith, c)) ∙ none)

pub long_4 : (s : Known) (k : ℕ) (x : Seen) (kept : List Waiting) → IsQueue kept (member s k) x → is_idle_in x ≡ true → is_ready (member s k) (outcomes_seen x) ≡ true →
    length (outcomes_seen x) ≡ reads_count (member s k) + 13 + count_requests x.tasks
long_4 s k x kept q idle ready =
    let c : length (outcomes_seen x) + 0 ≡ reads_count (member s k) + 13 + count_requests x.tasks = subst (λ b. length (outcomes_seen x) + (if b then 0 else 1) ≡ reads_count (member s k) + 13 + count_requests x.tasks) idle (q.count ready) in
    omega (arith, c)

-- the next request that waits is begun
pub with_next_4 : (s : Known) (k : ℕ) (x : Seen) (plan : Option PlanView) (kept rest : List Waiting) (w : Waiting) → IsQueue kept (member s k) x → kept ≡ rest ++ w ∷ [] → is_some plan ≡ true →
    is_idle_in x ≡ true → is_ready (member s k) (outcomes_seen x) ≡ true →
    (if is_idle_in x then of_phase 4 (slice_get (agenda s plan x.waiting k (outcomes_seen x)) (length (outcomes_seen x))) else None) ≡ Some (waiting_task w)
with_next_4 s k x None kept rest w q is planned idle ready = absurd (false≢true planned)
with_next_4 s k x (Some plan) kept rest w q is planned idle ready =
    begins_4 s k x plan (waiting_task w) idle ready (long_4 s k x kept q idle ready) (queue_next kept rest w (member s k) x q is ready idle).1 refl

pub with_none_4 : (s : Known) (k : ℕ) (x : Seen) (plan : Option PlanView) (kept : List Waiting) → IsQueue kept (member s k) x → kept ≡ [] → is_some plan ≡ true →
    is_idle_in x ≡ true → is_ready (member s k) (outcomes_seen x) ≡ true →
    (if is_idle_in x then of_phase 4 (slice_get (agenda s plan x.waiting k (outcomes_seen x)) (length (outcomes_seen x))) else None) ≡ None
with_none_4 s k x None kept q is planned idle ready = absurd (false≢true planned)
with_none_4 s k x (Some plan) kept q is planned idle ready = begins_no_4 s k x (Some plan) (begins_last_4 s k x plan kept q is idle ready)

pub unplanned_4 : (s : Known) (k : ℕ) (x : Seen) (plan : Option PlanView) → is_some plan ≡ false →
    (if is_idle_in x then of_phase 4 (slice_get (agenda s plan x.waiting k (outcomes_seen x)) (length (outcomes_seen x))) else None) ≡ None
unplanned_4 s k x None e = begins_no_4 s k x None (none_planned_4 s x.waiting k (outcomes_seen x) (length (outcomes_seen x)))
unplanned_4 s k x (Some plan) e = absurd (false≢true (sym e))

pub not_ready_4 : (s : Known) (k : ℕ) (x : Seen) (plan : Option PlanView) → is_ready (member s k) (outcomes_seen x) ≡ false →
    (if is_idle_in x then of_phase 4 (slice_get (agenda s plan x.waiting k (outcomes_seen x)) (length (outcomes_seen x))) else None) ≡ None
not_ready_4 s k x plan e = begins_no_4 s k x plan (none_4 s plan x.waiting k (outcomes_seen x) e (length (outcomes_seen x)))

pub busy_4 : (s : Known) (k : ℕ) (x : Seen) (plan : Option PlanView) → is_idle_in x ≡ false →
    (if is_idle_in x then of_phase 4 (slice_get (agenda s plan x.waiting k (outcomes_seen x)) (length (outcomes_seen x))) else None) ≡ None
busy_4 s k x plan e = rw e refl
