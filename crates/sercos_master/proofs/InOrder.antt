-- A request that begins is the first one that still waits.
use Rattle.std.proofs.lemmas.Option.{same_Some}
use Rattle.sercos_master.proofs.Words.{inr, inl, cases_Bool, ◌≡◌, ℕ, zero, suc, ◌+◌, ◌<◌, ◌≤◌, Bool, true, false, List, [], ◌∷◌, ◌++◌, length, refl, sym, ap, ◌∙◌, subst, arith, if◌then◌else◌, length-append, none-some, ◌==◌, nat_lt, Option, Some, None, is_some, map, drop, slice_get, false≢true, nat_tests, drop-drop, Job, Request, Outcome, outcome_of, PlanView, Begun, begun_by, Known, Task, member, startup, request_task, tasks_from, tasks_for, agenda, checking, reads, reads_count, writes, bytes_of, ended_well, is_ready, with_outcome, outcomes_in, of_phase, count_requests, ready_long, ready_stays, next_request, none_4, Call, Past, past, outcomes, is_idle, next_task, begins, settled, still_waiting}
use Rattle.sercos_step.specs.declared.request.Request.TheVariants as request
use Rattle.sercos_seat.specs.Agenda.{idn}
use Rattle.sercos_master.proofs.Keeping.{begins_next, past_keeps}
use Rattle.sercos_master.proofs.Laws.{get_dropped, waiting_settled}
use Rattle.sercos_master.proofs.Followed.{unplanned_at, AllFollow, Followed, Follows, followed, settled_follows, all_ended}
use Rattle.sercos_master.proofs.Configured.{leaves}

-- REQUESTS ARE OF PHASE 4, and nothing else is.
abbrev Tells : Task → Type 0
Tells t = (t.phase == 4) ≡ is_some t.number

abbrev AllTell : List Task → Type 0
AllTell xs = (i : ℕ) (t : Task) → slice_get xs i ≡ Some t → Tells t

tell_nil : AllTell []
tell_nil i t e = absurd (none-some _ e)

tell_more : (x : Task) (xs : List Task) → Tells x → AllTell xs → AllTell (x ∷ xs)
tell_more x xs one all zero t e = subst Tells (same_Some _ _ e) one
tell_more x xs one all (suc i) t e = all i t e

tell_both : (xs ys : List Task) → AllTell xs → AllTell ys → AllTell (xs ++ ys)
tell_both [] ys first all = all
tell_both (x ∷ xs) ys first all = tell_more x (xs ++ ys) (first zero x refl) (tell_both xs ys (λ i t e. first (suc i) t e) all)

tell_startups : (rs : List Request) → AllTell (map (startup 2) rs)
tell_startups [] = tell_nil
tell_startups (r ∷ rs) = tell_more (startup 2 r) (map (startup 2) rs) refl (tell_startups rs)

tell_checking : (phase command list : ℕ) (o : Option Outcome) (next : List Task) → (phase == 4) ≡ false → AllTell next → AllTell (checking phase command list o next)
tell_checking phase command list None next e all = tell_more (startup phase (request.Command (idn command))) [] e tell_nil
tell_checking phase command list (Some o) next e all =
    tell_more (startup phase (request.Command (idn command))) (if ended_well (bytes_of o) then next else startup phase (request.Read (idn list) 7) ∷ []) e (by (ended_well (bytes_of o)))
  where
    by : (b : Bool) → AllTell (if b then next else startup phase (request.Read (idn list) 7) ∷ [])
    by true = all
    by false = tell_more (startup phase (request.Read (idn list) 7)) [] e tell_nil

tell_agenda : (s : Known) (plan : Option PlanView) (waiting : List Task) (k : ℕ) (all : List Outcome) → AllTell waiting → AllTell (agenda s plan waiting k all)
tell_agenda s None waiting k all tells = tell_both (map (startup 2) (reads (member s k))) [] (tell_startups (reads (member s k))) tell_nil
tell_agenda s (Some p) waiting k all tells =
    tell_both (map (startup 2) (reads (member s k))) _ (tell_startups (reads (member s k)))
    (tell_both (map (startup 2) (writes s p k)) _ (tell_startups (writes s p k))
    (tell_checking 2 127 21 (slice_get all (reads_count (member s k) + 11)) (checking 3 128 22 (slice_get all (reads_count (member s k) + 12)) waiting) refl
    (tell_checking 3 128 22 (slice_get all (reads_count (member s k) + 12)) waiting refl tells)))

-- the requests of these jobs have numbers
abbrev pub AreNumbered : List Task → Type 0
AreNumbered xs = (i : ℕ) (t : Task) → slice_get xs i ≡ Some t → (t.phase ≡ 4) × (is_some t.number ≡ true)

numbered_tell : (xs : List Task) → AreNumbered xs → AllTell xs
numbered_tell xs all i t e = let n = all i t e in rw (n.0, n.1) refl

pub tasks_numbered : (address i : ℕ) (jobs : List Job) → AreNumbered (tasks_from address i jobs)
tasks_numbered address i [] = λ j t e. absurd (none-some _ e)
tasks_numbered address i (job ∷ jobs) = elim (cases_Bool (job.drive == address)) [
  | inl on ↦ rw on (one_more (tasks_numbered address (i + 1) jobs))
  | inr off ↦ rw off (tasks_numbered address (i + 1) jobs)
]
  where
    one_more : AreNumbered (tasks_from address (i + 1) jobs) → AreNumbered (request_task i job.request ∷ tasks_from address (i + 1) jobs)
    one_more all zero t e = (ap (λ x. x.phase) (sym (same_Some _ _ e)), ap (λ x. is_some x.number) (sym (same_Some _ _ e)))
    one_more all (suc j) t e = all j t e

dropped_numbered : (n : ℕ) (xs : List Task) → AreNumbered xs → AreNumbered (drop n xs)
dropped_numbered zero xs all = all
dropped_numbered (suc n) [] all = all
dropped_numbered (suc n) (x ∷ xs) all = dropped_numbered n xs (λ i t e. all (suc i) t e)

-- THE REQUESTS BEGUN, by the number of requests and jobs begun on the channel.
not_four : (t : Task) (b : Bool) → (if b then Some t else None) ≡ None → b ≡ false
not_four t true e = absurd (none-some _ (sym e))
not_four t false e = refl

-- until both checks have ended well there is none
early_task : (s : Known) (k : ℕ) (plan : Option PlanView) (waiting : List Task) (all : List Outcome) (t : Task) → AreNumbered waiting →
    is_ready (member s k) all ≡ false → slice_get (agenda s plan waiting k all) (length all) ≡ Some t → is_some t.number ≡ false
early_task s k plan waiting all t numbered early next =
    sym (tell_agenda s plan waiting k all (numbered_tell waiting numbered) (length all) t next)
    ∙ not_four t (t.phase == 4) (ap (of_phase 4) (sym next) ∙ none_4 s plan waiting k all early (length all))

none_yet : (s : Known) (k : ℕ) (plan : Option PlanView) (waiting : List Task) (begun : List Begun) (tasks : List Task) → AreNumbered waiting → AllFollow s k plan waiting begun tasks →
    is_ready (member s k) (outcomes_in begun) ≡ false → count_requests tasks ≡ 0
none_yet s k plan waiting [] [] numbered all early = refl
none_yet s k plan waiting [] (t ∷ tasks) numbered all early = absurd all
none_yet s k plan waiting (b ∷ older) [] numbered all early = refl
none_yet s k plan waiting (b ∷ older) (t ∷ tasks) numbered all early = by (is_ready (member s k) (outcomes_in older)) refl (none_yet s k plan waiting older tasks numbered all.0)
  where
    stays : (o : Option Outcome) → is_ready (member s k) (outcomes_in older) ≡ true → is_ready (member s k) (with_outcome o (outcomes_in older)) ≡ true
    stays None e = e
    stays (Some o) e = ready_stays (member s k) (outcomes_in older) o (ready_long (member s k) (outcomes_in older) e) ∙ e

    by : (ready : Bool) → is_ready (member s k) (outcomes_in older) ≡ ready → (is_ready (member s k) (outcomes_in older) ≡ false → count_requests tasks ≡ 0) → (if is_some t.number then count_requests tasks + 1 else count_requests tasks) ≡ 0
    by true e before = absurd (false≢true (sym early ∙ stays (outcome_of b.request b.answers) e))
    by false e before = rw (early_task s k all.1.by_then waiting (outcomes_in older) t numbered e all.1.next) (before e)

-- then each task is the next request
each_then : (s : Known) (k : ℕ) (plan : Option PlanView) (waiting : List Task) (begun : List Begun) (tasks : List Task) → AreNumbered waiting → AllFollow s k plan waiting begun tasks →
    length (outcomes_in begun) ≡ length begun → is_ready (member s k) (outcomes_in begun) ≡ true → reads_count (member s k) + 13 + count_requests tasks ≡ length begun
each_then s k plan waiting [] tasks numbered all ended ready = let l = ready_long (member s k) [] ready in absurd (omega (arith, l))
each_then s k plan waiting (b ∷ older) [] numbered all ended ready = absurd all
each_then s k plan waiting (b ∷ older) (t ∷ tasks) numbered all ended ready = by (is_ready (member s k) (outcomes_in older)) refl (each_then s k plan waiting older tasks numbered all.0 all.1.ended)
  where
    f : Follows s k plan waiting b t older tasks
    f = all.1

    -- one outcome more
    one_more : (o : Option Outcome) → length (with_outcome o (outcomes_in older)) ≡ suc (length older) → is_ready (member s k) (with_outcome o (outcomes_in older)) ≡ true →
        is_ready (member s k) (outcomes_in older) ≡ false → length older ≡ reads_count (member s k) + 12
    one_more None long e early = absurd (false≢true (sym early ∙ e))
    one_more (Some o) long e early =
        let many = ready_long (member s k) (outcomes_in older ++ o ∷ []) e in
        let l = length-append (outcomes_in older) (o ∷ []) in
        by_place (nat_lt (reads_count (member s k) + 12) (length (outcomes_in older))) refl (omega (arith, many, l, f.ended))
      where
        by_place : (b : Bool) → nat_lt (reads_count (member s k) + 12) (length (outcomes_in older)) ≡ b → reads_count (member s k) + 12 ≤ length older → length older ≡ reads_count (member s k) + 12
        by_place true g h =
            absurd (false≢true (sym early ∙ (sym (ready_stays (member s k) (outcomes_in older) o (grind (arith, nat_tests, g))) ∙ e)))
        by_place false g h = let same = f.ended in let not_beyond : length (outcomes_in older) ≤ reads_count (member s k) + 12 = grind (arith, nat_tests, g) in omega (arith, same, not_beyond, h)

    by : (early : Bool) → is_ready (member s k) (outcomes_in older) ≡ early → (is_ready (member s k) (outcomes_in older) ≡ true → reads_count (member s k) + 13 + count_requests tasks ≡ length older) → reads_count (member s k) + 13 + (if is_some t.number then count_requests tasks + 1 else count_requests tasks) ≡ suc (length older)
    by true e rest = go f.by_then f.next
      where
        go : (o : Option PlanView) → slice_get (agenda s o waiting k (outcomes_in older)) (length (outcomes_in older)) ≡ Some t → reads_count (member s k) + 13 + (if is_some t.number then count_requests tasks + 1 else count_requests tasks) ≡ suc (length older)
        go None next = absurd (unplanned_at s k waiting (outcomes_in older) t (omega (arith, ready_long (member s k) (outcomes_in older) e)) next)
        go (Some p) next =
            let at : length (outcomes_in older) ≡ reads_count (member s k) + 13 + count_requests tasks = f.ended ∙ sym (rest e) in
            let is : slice_get waiting (count_requests tasks) ≡ Some t = sym (next_request s p waiting k (outcomes_in older) (count_requests tasks) e at) ∙ next in
            rw (numbered (count_requests tasks) t is).1 (omega (arith, rest e))
    by false e rest =
        let at : length older ≡ reads_count (member s k) + 12 = one_more (outcome_of b.request b.answers) ended ready e in
        let none : count_requests tasks ≡ 0 = none_yet s k plan waiting older tasks numbered all.0 e in
        rw (early_task s k f.by_then waiting (outcomes_in older) t numbered e f.next) (omega (arith, at, none))

-- WHAT WAITS is what is left of the requests that the master was opened with.
pub still_left : (s : Known) (requests : ℕ → List Task) (h : List Call) (k : ℕ) → (n : ℕ) × ((past s requests h).waiting k ≡ drop n (requests k))
still_left s requests h k = past_keeps (λ p. (n : ℕ) × (p.waiting k ≡ drop n (requests k))) s requests (record {
  first = (0, refl);
  mst = λ h whole before. before;
  taken = λ h i content inside is before. before;
  mdt = λ h before. (before.0, ap (λ w. w k) (waiting_settled s (past s requests h)) ∙ before.1);
  on = λ h done is before. before;
  new = λ h cycle before.
      let n = count_requests ((past s requests h).tasks k) in
      (before.0 + n, ap (drop n) before.1 ∙ drop-drop n before.0 (requests k));
}) h

pub first_waiting : (s : Known) (jobs : List Job) (h : List Call) (k : ℕ) (t : Task) → k < length s.drives → begins s (settled s (past s (tasks_for s jobs) h)) k ≡ Some t → is_some t.number ≡ true →
    slice_get (still_waiting (past s (tasks_for s jobs) h) k) 0 ≡ Some t
first_waiting s jobs h k t within begin number =
    let p = past s (tasks_for s jobs) h in
    let b = begins_next s q k t begin in
    let keeps = leaves s p in
    let n = count_requests (p.tasks k) in
    let zero_is : n + 0 ≡ n = omega arith in
    (get_dropped n (p.waiting k) 0 ∙ ap (slice_get (p.waiting k)) zero_is) ∙ (sym (ap (λ w. slice_get (w k) (count_requests (p.tasks k))) (waiting_settled s p)) ∙ (sym (ap (λ ts. slice_get (q.waiting k) (count_requests (ts k))) keeps.tasks) ∙ one b.idle b.next))
  where
    q : Past
    q = settled s (past s (tasks_for s jobs) h)

    all : Followed s (settled s (past s (tasks_for s jobs) h)) k
    all = settled_follows s (past s (tasks_for s jobs) h) k (followed s (tasks_for s jobs) h k within)

    numbered : AreNumbered ((settled s (past s (tasks_for s jobs) h)).waiting k)
    numbered =
        let left = still_left s (tasks_for s jobs) h k in
        subst AreNumbered (sym (ap (λ w. w k) (waiting_settled s (past s (tasks_for s jobs) h)) ∙ left.1)) (dropped_numbered left.0 (tasks_for s jobs k) (tasks_numbered (member s k).address 1 jobs))

    one : is_idle (settled s (past s (tasks_for s jobs) h)) k ≡ true → next_task s (settled s (past s (tasks_for s jobs) h)) k ≡ Some t → slice_get ((settled s (past s (tasks_for s jobs) h)).waiting k) (count_requests ((settled s (past s (tasks_for s jobs) h)).tasks k)) ≡ Some t
    one idle next = which (is_ready (member s k) (outcomes q k)) refl
      where
        ended : length (outcomes (settled s (past s (tasks_for s jobs) h)) k) ≡ length (begun_by ((settled s (past s (tasks_for s jobs) h)).calls k))
        ended = all_ended s k q.plan (q.waiting k) (begun_by (q.calls k)) (q.tasks k) all idle

        which : (b : Bool) → is_ready (member s k) (outcomes (settled s (past s (tasks_for s jobs) h)) k) ≡ b → slice_get ((settled s (past s (tasks_for s jobs) h)).waiting k) (count_requests ((settled s (past s (tasks_for s jobs) h)).tasks k)) ≡ Some t
        which false early = absurd (false≢true (sym (early_task s k q.plan (q.waiting k) (outcomes q k) t numbered early next) ∙ number))
        which true ready = go q.plan refl
          where
            count : reads_count (member s k) + 13 + count_requests ((settled s (past s (tasks_for s jobs) h)).tasks k) ≡ length (begun_by ((settled s (past s (tasks_for s jobs) h)).calls k))
            count = each_then s k q.plan (q.waiting k) (begun_by (q.calls k)) (q.tasks k) numbered all ended ready

            go : (o : Option PlanView) → (settled s (past s (tasks_for s jobs) h)).plan ≡ o → slice_get ((settled s (past s (tasks_for s jobs) h)).waiting k) (count_requests ((settled s (past s (tasks_for s jobs) h)).tasks k)) ≡ Some t
            go None none = absurd (unplanned_at s k (q.waiting k) (outcomes q k) t (omega (arith, ready_long (member s k) (outcomes q k) ready))
                (subst (λ o. slice_get (agenda s o (q.waiting k) k (outcomes q k)) (length (outcomes q k)) ≡ Some t) none next))
            go (Some plan) some =
                let at : slice_get (agenda s (Some plan) (q.waiting k) k (outcomes q k)) (length (outcomes q k)) ≡ Some t = subst (λ o. slice_get (agenda s o (q.waiting k) k (outcomes q k)) (length (outcomes q k)) ≡ Some t) some next in
                sym (next_request s plan (q.waiting k) k (outcomes q k) (count_requests (q.tasks k)) ready (ended ∙ sym count)) ∙ at
