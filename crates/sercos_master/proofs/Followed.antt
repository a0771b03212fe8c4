-- What was begun on a channel in an epoch followed its agenda: each task was the next one after the outcomes of those begun before,
-- which had all ended, those of the start-up without error.
use Rattle.sercos_master.proofs.Keeping.{cases_Option}
use Rattle.sercos_master.proofs.Words.{cases_Bool, ◌≡◌, ◌⊎◌, inl, inr, ℕ, zero, suc, ◌+◌, ◌<◌, ◌≤◌, Bool, true, false, List, [], ◌∷◌, ◌++◌, length, refl, sym, ap, ◌∙◌, subst, arith, if◌then◌else◌, length-append, Option, Some, None, is_some, is_none, map, slice_get, option_or, cases_eq, status_of, word_at, Request, Outcome, Answer, is_whole, answer_words, result_of, outcome_of, next_step, PlanView, Begun, open_in, answers_it, answer_in, with_answer, begun_by, Stop, Known, Task, member, startup, agenda, reads, reads_count, writes, is_checked, asked_by, stop_of_task, outcomes_in, last_outcome, trouble_by, get_map, get_left, get_right, get_none, length_map, length_append, reads_length, ended_there, Call, Past, past, outcomes, all_checked, is_idle, trouble, first_trouble, first_trouble_from, settled, with_task, with_begin, begun, ready_to_send, is_sent_to, addressed_in, after_mdt, begins, CoreView, IsIn, none-some, same_Some}
use Rattle.sercos_step.specs.declared.request.Outcome.TheVariants as outcome
use Rattle.sercos_step.proofs.Ends.{has_next}
use Rattle.sercos_service_master.specs.Calls as channel
use Rattle.sercos_master.specs.Written.{IsWritten, AreWritten, HoldsPlan}
use Rattle.sercos_master.proofs.Keeping.{begins_next, channel_keeps, never_both, past_keeps, settled_keeps}
use Rattle.sercos_master.proofs.Configured.{Leaves, each_passes, leaves}

-- a transfer without an outcome has a next step
abbrev pub HasNext : Type 0
HasNext = (r : Request) (h : List Answer) → is_some (outcome_of r h) ≡ false → is_some (next_step r h) ≡ true

-- where the newest of these is of the start-up, it ended without error
abbrev pub HasEndedWell : List Begun → List Task → Type 0
HasEndedWell (b ∷ older) (t ∷ tasks) = t.number ≡ None → (bytes : List ℕ) × (outcome_of b.request b.answers ≡ Some (outcome.Complete bytes))
HasEndedWell _ _ = Unit {0}

-- by the plan, or before there was one
pub record Follows (s : Known) (k : ℕ) (plan : Option PlanView) (waiting : List Task) (b : Begun) (t : Task) (older : List Begun) (tasks : List Task) : Type 0 where
  pub asks : b.request ≡ t.request
  pub by_then : Option PlanView
  pub same : (by_then ≡ None) ⊎ (by_then ≡ plan)
  pub next : slice_get (agenda s by_then waiting k (outcomes_in older)) (length (outcomes_in older)) ≡ Some t
  pub ended : length (outcomes_in older) ≡ length older
  pub well : HasEndedWell older tasks

abbrev pub AllFollow : Known → ℕ → Option PlanView → List Task → List Begun → List Task → Type 0
AllFollow s k plan waiting [] [] = Unit {0}
AllFollow s k plan waiting (b ∷ older) (t ∷ tasks) = AllFollow s k plan waiting older tasks × Follows s k plan waiting b t older tasks
AllFollow s k plan waiting _ _ = ⊥

abbrev pub Followed : Known → Past → ℕ → Type 0
Followed s p k = AllFollow s k p.plan (p.waiting k) (begun_by (p.calls k)) (p.tasks k)

-- A PLAN COMES where there was none.
new_plan : (s : Known) (k : ℕ) (plan other : Option PlanView) (waiting : List Task) (begun : List Begun) (tasks : List Task) → (plan ≡ None) ⊎ (other ≡ plan) →
    AllFollow s k plan waiting begun tasks → AllFollow s k other waiting begun tasks
new_plan s k plan other waiting [] [] how all = tt
new_plan s k plan other waiting [] (t ∷ tasks) how all = all
new_plan s k plan other waiting (b ∷ older) [] how all = all
new_plan s k plan other waiting (b ∷ older) (t ∷ tasks) how all = (new_plan s k plan other waiting older tasks how all.0, one all.1)
  where
    one : Follows s k plan waiting b t older tasks → Follows s k other waiting b t older tasks
    one f = record { asks = f.asks; by_then = f.by_then; same = which how f.same; next = f.next; ended = f.ended; well = f.well }
      where
        which : (plan ≡ None) ⊎ (other ≡ plan) → (f.by_then ≡ None) ⊎ (f.by_then ≡ plan) → (f.by_then ≡ None) ⊎ (f.by_then ≡ other)
        which how (inl none) = inl none
        which (inl none) (inr is) = inl (is ∙ none)
        which (inr same) (inr is) = inr (is ∙ sym same)

-- A STATUS IS HEARD.
answered : (s : Known) (k : ℕ) (plan : Option PlanView) (waiting : List Task) (a : Answer) (begun : List Begun) (tasks : List Task) →
    AllFollow s k plan waiting begun tasks → AllFollow s k plan waiting (with_answer a begun) tasks
answered s k plan waiting a [] tasks all = all
answered s k plan waiting a (b ∷ older) [] all = all
answered s k plan waiting a (b ∷ older) (t ∷ tasks) all = (all.0, record { asks = all.1.asks; by_then = all.1.by_then; same = all.1.same; next = all.1.next; ended = all.1.ended; well = all.1.well })

-- THE ANSWERS ARE LOOKED AT.
pub settles : (s : Known) (p : Past) → Leaves (settled s p) p
settles = leaves

pub settled_follows : (s : Known) (p : Past) (k : ℕ) → Followed s p k → Followed s (settled s p) k
settled_follows s p k all =
    let q = leaves s p in
    rw (q.calls, q.tasks, q.waiting) (new_plan s k p.plan (settled s p).plan (p.waiting k) (begun_by (p.calls k)) (p.tasks k) q.plan all)

-- where there is no stop then, no channel's newest outcome is a trouble
pub no_stop_before : (s : Known) (p : Past) → (settled s p).stop ≡ None → first_trouble s p ≡ None
no_stop_before s p = settled_keeps (λ q. q.stop ≡ None → first_trouble s p ≡ None) s p (λ rests. rests.untroubled)
    (λ x free brings none. absurd (none-some x (sym none))) (λ plan makes none. makes.untroubled)

pub none_troubled : (s : Known) (p : Past) (k n j : ℕ) → first_trouble_from s p k n ≡ None → k ≤ j → j < k + n → trouble s p j ≡ None
none_troubled s p k zero j e low high = absurd (omega (arith, low, high))
none_troubled s p k (suc n) j e low high = by (trouble s p k) refl e (λ rest other. none_troubled s p (k + 1) n j rest (omega (arith, low, other)) (omega (arith, high)))
  where
    by : (o : Option Stop) → trouble s p k ≡ o → option_or o (first_trouble_from s p (k + 1) n) ≡ None → (first_trouble_from s p (k + 1) n ≡ None → (j ≡ k → ⊥) → trouble s p j ≡ None) → trouble s p j ≡ None
    by None f e rest = elim (cases_eq j k) [ inl is ↦ ap (trouble s p) is ∙ f | inr other ↦ rest e other ]
    by (Some x) f e rest = absurd (cc)

-- A TASK BEGINS.
-- a request without an outcome has an open step
pub never_idle : HasNext → (b : Begun) (older : List Begun) → is_none (open_in (b ∷ older)) ≡ true → outcome_of b.request b.answers ≡ None → ⊥
never_idle has b older idle none = never_both (next_step b.request b.answers) (has b.request b.answers (ap is_some none))
    (subst (λ (o : Option Outcome). is_none (if is_some o then None else next_step b.request b.answers) ≡ true) none idle)

-- an idle channel's requests have all ended
pub all_ended : (s : Known) (k : ℕ) (plan : Option PlanView) (waiting : List Task) (begun : List Begun) (tasks : List Task) → AllFollow s k plan waiting begun tasks →
    is_none (open_in begun) ≡ true → length (outcomes_in begun) ≡ length begun
all_ended s k plan waiting [] tasks all idle = refl
all_ended s k plan waiting (b ∷ older) [] all idle = absurd all
all_ended s k plan waiting (b ∷ older) (t ∷ tasks) all idle = elim (cases_Option (outcome_of b.request b.answers)) [
  | inl e ↦ absurd (never_idle has_next b older idle e)
  | inr (o, e) ↦ rw e (omega (arith, length-append (outcomes_in older) (o ∷ []), all.1.ended))
]

-- an outcome of the start-up that brings no stop is complete
ends_complete : (address : ℕ) (b : Begun) (older : List Begun) (t : Task) (tasks : List Task) → is_none (open_in (b ∷ older)) ≡ true →
    trouble_by address (t ∷ tasks) (outcome_of b.request b.answers) ≡ None → t.number ≡ None → (bytes : List ℕ) × (outcome_of b.request b.answers ≡ Some (outcome.Complete bytes))
ends_complete address b older t tasks idle quiet startup = by (outcome_of b.request b.answers) refl
  where
    never_broken : (r : Request) (h : List Answer) → outcome_of r h ≡ Some outcome.Broken → ⊥
    never_broken r [] e = cc
    never_broken r (a ∷ h) e = which a.error (is_whole r (answer_words h ++ a.word ∷ [])) e
      where
        which : (error whole : Bool) → (if error then Some (outcome.Refused (record { raw = a.word })) else (if whole then Some (outcome.Complete (result_of r (answer_words h ++ a.word ∷ []))) else None)) ≡ Some outcome.Broken → ⊥
        which true whole e = cc
        which false true e = cc
        which false false e = cc

    by : (o : Option Outcome) → outcome_of b.request b.answers ≡ o → (bytes : List ℕ) × (outcome_of b.request b.answers ≡ Some (outcome.Complete bytes))
    by (Some (outcome.Complete bytes)) e = (bytes, e)
    by (Some (outcome.Refused code)) e =
        let stops : stop_of_task address t.number (asked_by t.request) (outcome.Refused code) ≡ None = subst (λ o. trouble_by address (t ∷ tasks) o ≡ None) e quiet in
        absurd (some≢none (subst (λ n. stop_of_task address n (asked_by t.request) (outcome.Refused code) ≡ None) startup stops))
      where
        some≢none : {A : Type 0} {x : A} → Some x ≡ None → ⊥
        some≢none e = cc
    by (Some outcome.Broken) e = absurd (never_broken b.request b.answers e)
    by None e = absurd (never_idle has_next b older idle e)

ended_well : (s : Known) (p : Past) (k : ℕ) → Followed s p k → is_idle p k ≡ true → trouble s p k ≡ None → HasEndedWell (begun_by (p.calls k)) (p.tasks k)
ended_well s p k all idle quiet = by (begun_by (p.calls k)) (p.tasks k) idle quiet
  where
    by : (begun : List Begun) (tasks : List Task) → is_none (open_in begun) ≡ true → trouble_by (member s k).address tasks (last_outcome begun) ≡ None → HasEndedWell begun tasks
    by [] tasks idle quiet = tt
    by (b ∷ older) [] idle quiet = tt
    by (b ∷ older) (t ∷ tasks) idle quiet = ends_complete (member s k).address b older t tasks idle quiet

begun_follows : (s : Known) (p : Past) (k : ℕ) → (p.stop ≡ None → trouble s p k ≡ None) → Followed s p k → Followed s (begun s p) k
begun_follows s p k quiet all = by (begins s p k) refl
  where
    by : (o : Option Task) → begins s p k ≡ o → AllFollow s k p.plan (p.waiting k) (begun_by (with_begin o (p.calls k)))
        (with_task o (p.tasks k))
    by None is = all
    by (Some t) is =
        let b = begins_next s p k t is in (
          all,
          record {
            asks = refl;
            by_then = p.plan;
            same = inr refl;
            next = b.next;
            ended = all_ended s k p.plan (p.waiting k) (begun_by (p.calls k)) (p.tasks k) all b.idle;
            well = ended_well s p k all b.idle (quiet b.unstopped);
          },
        )

mdt_follows : (s : Known) (p : Past) (k : ℕ) → k < length s.drives → Followed s p k → Followed s (after_mdt s p) k
mdt_follows s p k within all = by (is_sent_to (ready_to_send s p) (addressed_in s (ready_to_send s p)) k)
  where
    quiet : (settled s p).stop ≡ None → trouble s (settled s p) k ≡ None
    quiet none =
        let z : 0 + length s.drives ≡ length s.drives = omega arith in
        let before : trouble s p k ≡ None = none_troubled s p 0 (length s.drives) k (no_stop_before s p none) (omega arith) (omega (arith, z, within)) in
        rw ((leaves s p).calls, (leaves s p).tasks) before

    by : (b : Bool) → AllFollow s k (ready_to_send s p).plan ((ready_to_send s p).waiting k) (begun_by (if b then channel.Send ∷ (ready_to_send s p).calls k else (ready_to_send s p).calls k)) ((ready_to_send s p).tasks k)
    by true = begun_follows s (settled s p) k quiet (settled_follows s p k all)
    by false = begun_follows s (settled s p) k quiet (settled_follows s p k all)

-- AFTER ANY CALLS
pub followed : (s : Known) (requests : ℕ → List Task) (h : List Call) (k : ℕ) → k < length s.drives → Followed s (past s requests h) k
followed s requests h k within = past_keeps (λ p. Followed s p k) s requests (record {
  first = tt;
  mst = λ h whole all. all;
  taken = λ h i content inside is. λ all. channel_keeps
      (λ calls. AllFollow s k (past s requests h).plan ((past s requests h).waiting k) (begun_by calls)
      ((past s requests h).tasks k)) i k content (past s requests h) all
      (λ same. elim (cases_Bool (answers_it (begun_by ((past s requests h).calls k)) (status_of (word_at content 1)))) [
        | inl on ↦ rw on (answered s k (past s requests h).plan ((past s requests h).waiting k)
            (answer_in (status_of (word_at content 1)) (word_at content 3))
            (begun_by ((past s requests h).calls k)) ((past s requests h).tasks k) all)
        | inr off ↦ rw off all
      ]);
  mdt = λ h. mdt_follows s (past s requests h) k within;
  on = λ h done is all. all;
  new = λ h cycle all. tt;
}) h

-- THE WRITES. What was begun at a place, with another task after it, has ended without error, if it is of the start-up.
record FoundAt (s : Known) (k : ℕ) (plan : Option PlanView) (waiting : List Task) (begun : List Begun) (j : ℕ) : Type 0 where
  newer : List Begun
  one : Begun
  older : List Begun
  task : Task
  tasks : List Task
  split : begun ≡ newer ++ one ∷ older
  place : length older ≡ j
  follows : Follows s k plan waiting one task older tasks
  well : task.number ≡ None → (bytes : List ℕ) × (outcome_of one.request one.answers ≡ Some (outcome.Complete bytes))

found_at : (s : Known) (k : ℕ) (plan : Option PlanView) (waiting : List Task) (begun : List Begun) (tasks : List Task) (j : ℕ) → AllFollow s k plan waiting begun tasks → j + 1 < length begun → FoundAt s k plan waiting begun j
found_at s k plan waiting [] tasks j all less = absurd (omega (arith, less))
found_at s k plan waiting (b ∷ []) tasks j all less = absurd (omega (arith, less))
found_at s k plan waiting (b ∷ one ∷ older) [] j all less = absurd all
found_at s k plan waiting (b ∷ one ∷ older) (t ∷ []) j all less = absurd all.0
found_at s k plan waiting (b ∷ one ∷ older) (t ∷ u ∷ tasks) j all less =
    elim (cases_eq (length older) j) [
      | inl is ↦ record { newer = b ∷ []; one = one; older = older; task = u; tasks = tasks; split = refl; place = is; follows = all.0.1; well = all.1.well }
      | inr other ↦ deeper (found_at s k plan waiting (one ∷ older) (u ∷ tasks) j all.0 (omega (arith, less, other)))
    ]
  where
    deeper : FoundAt s k plan waiting (one ∷ older) j → FoundAt s k plan waiting (b ∷ one ∷ older) j
    deeper f = record { newer = b ∷ f.newer; one = f.one; older = f.older; task = f.task; tasks = f.tasks; split = ap (λ xs. b ∷ xs) f.split; place = f.place; follows = f.follows; well = f.well }

pub not_longer : (begun : List Begun) → length (outcomes_in begun) ≤ length begun
not_longer [] = omega arith
not_longer (b ∷ older) = elim (cases_Option (outcome_of b.request b.answers)) [
  | inl none ↦ rw none (omega (arith, not_longer older))
  | inr (o, some) ↦ rw some (omega (arith, length-append (outcomes_in older) (o ∷ []), not_longer older))
]

pub unplanned_at : (s : Known) (k : ℕ) (waiting : List Task) (all : List Outcome) (t : Task) → reads_count (member s k) ≤ length all →
    slice_get (agenda s None waiting k all) (length all) ≡ Some t → ⊥
unplanned_at s k waiting all t long e =
    let a = length_append (map (startup 2) (reads (member s k))) [] in
    none-some _ (sym (get_none (map (startup 2) (reads (member s k)) ++ []) (length all)
    (omega (arith, (length_map (startup 2) (reads (member s k)) ∙ reads_length (member s k)), a, long))) ∙ e)

write_at : (s : Known) (k i : ℕ) (plan : PlanView) (waiting : List Task) (all : List Outcome) (t : Task) → i < 11 → length all ≡ reads_count (member s k) + i →
    slice_get (agenda s (Some plan) waiting k all) (length all) ≡ Some t → (t.number ≡ None) × (slice_get (writes s plan k) i ≡ Some t.request)
write_at s k i plan waiting all t below long e =
    let first = get_right (map (startup 2) (reads (member s k))) _ (length all) i
    (omega (arith, (length_map (startup 2) (reads (member s k)) ∙ reads_length (member s k)), long)) in
    let second = get_left (map (startup 2) (writes s plan k)) _ i (omega (arith, length_map (startup 2) (writes s plan k), below)) in
    by (slice_get (writes s plan k) i) refl (sym (get_map (startup 2) (writes s plan k) i) ∙ (sym second ∙ (sym first ∙ e)))
  where
    by : (o : Option Request) → slice_get (writes s plan k) i ≡ o → Rattle.std.specs.Prelude.option_map (startup 2) (slice_get (writes s plan k) i) ≡ Some t → (t.number ≡ None) × (slice_get (writes s plan k) i ≡ Some t.request)
    by None f e = absurd (none-some _ (sym (ap (Rattle.std.specs.Prelude.option_map (startup 2)) f) ∙ e))
    by (Some r) f e =
        let same : startup 2 r ≡ t = same_Some _ _ (sym (ap (Rattle.std.specs.Prelude.option_map (startup 2)) f) ∙ e) in
        (ap (λ x. x.number) (sym same), f ∙ ap (λ x. Some x.request) same)

written_at : (s : Known) (requests : ℕ → List Task) (h : List Call) (k i : ℕ) → k < length s.drives → i < 11 → is_checked (member s k) (outcomes (past s requests h) k) ≡ true →
    (plan : PlanView) × ((past s requests h).plan ≡ Some plan) × IsWritten s k plan (begun_by ((past s requests h).calls k)) i
written_at s requests h k i within below checked =
    let all = followed s requests h k within in
    let long : reads_count (member s k) + 11 < length (outcomes (past s requests h) k) = ended_there (outcomes (past s requests h) k) (reads_count (member s k) + 11) checked in
    let fewer = not_longer (begun_by ((past s requests h).calls k)) in
    made (found_at s k (past s requests h).plan ((past s requests h).waiting k) (begun_by ((past s requests h).calls k)) ((past s requests h).tasks k) (reads_count (member s k) + i) all (omega (arith, long, fewer, below)))
  where
    made : FoundAt s k (past s requests h).plan ((past s requests h).waiting k) (begun_by ((past s requests h).calls k)) (reads_count (member s k) + i) →
        (plan : PlanView) × ((past s requests h).plan ≡ Some plan) × IsWritten s k plan (begun_by ((past s requests h).calls k)) i
    made f = by f.follows.by_then f.follows.same f.follows.next
      where
        at : length (outcomes_in f.older) ≡ reads_count (member s k) + i
        at = f.follows.ended ∙ f.place

        by : (o : Option PlanView) → (o ≡ None) ⊎ (o ≡ (past s requests h).plan) → slice_get (agenda s o ((past s requests h).waiting k) k (outcomes_in f.older)) (length (outcomes_in f.older)) ≡ Some f.task →
            (plan : PlanView) × ((past s requests h).plan ≡ Some plan) × IsWritten s k plan (begun_by ((past s requests h).calls k)) i
        by None same next = absurd (unplanned_at s k ((past s requests h).waiting k) (outcomes_in f.older) f.task (omega (arith, at)) next)
        by (Some plan) (inl none) next = absurd (cc)
        by (Some plan) (inr same) next =
            let w = write_at s k i plan ((past s requests h).waiting k) (outcomes_in f.older) f.task below at next in
            let done = f.well w.0 in
            (plan, sym same, record { newer = f.newer; one = f.one; older = f.older; split = f.split; place = f.place; asks = w.1 ∙ ap (λ r. Some r) (sym f.follows.asks); bytes = done.0; answered = done.1 })

-- once each drive's check for phase 3 has ended well
pub are_written : (s : Known) (requests : ℕ → List Task) (h : List Call) → 1 ≤ length s.drives → all_checked s (past s requests h) ≡ true → AreWritten s (past s requests h)
are_written s requests h some all =
    let first = at 0 0 (omega (arith, some)) (omega arith) in
    record {
      plan = first.0;
      plan_is = first.1;
      written = λ k i within below. same_plan first.1 (at k i within below);
    }
  where
    at : (k i : ℕ) → k < length s.drives → i < 11 → (plan : PlanView) × ((past s requests h).plan ≡ Some plan) × IsWritten s k plan (begun_by ((past s requests h).calls k)) i
    at k i within below = written_at s requests h k i within below (each_passes (length s.drives) 0 (λ j. is_checked (member s j) (outcomes (past s requests h) j)) all k (omega arith) (omega (arith, within)))

    same_plan : {plan : PlanView} {k i : ℕ} → (past s requests h).plan ≡ Some plan → (other : PlanView) × ((past s requests h).plan ≡ Some other) × IsWritten s k other (begun_by ((past s requests h).calls k)) i → IsWritten s k plan (begun_by ((past s requests h).calls k)) i
    same_plan {plan} {k} {i} is (other, also, written) = subst (λ q. IsWritten s k q (begun_by ((past s requests h).calls k)) i) (same_Some _ _ (sym also ∙ is)) written

-- the plan is kept then, also in the next phase
pub holds_plan : {phase : ℕ} {v w : CoreView} (s : Known) (requests : ℕ → List Task) (h : List Call) → w.plan ≡ v.plan → IsIn phase v s (past s requests h) → all_checked s (past s requests h) ≡ true → HoldsPlan w s (past s requests h)
holds_plan s requests h same stands all =
    let written = are_written s requests h stands.known.some all in
    record { all = written; held = same ∙ (stands.stands.plan_is ∙ written.plan_is) }
