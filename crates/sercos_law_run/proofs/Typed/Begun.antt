-- Each request that the master begins is typed.
use Rattle.sercos_law_run.proofs.Words.{◌≡◌, ℕ, zero, suc, ◌+◌, ◌*◌, ◌<◌, ◌≤◌, ◌==◌, Bool, true, false, List, [], ◌∷◌, ◌++◌, map, length, Option, Some, None, IfSome, refl, sym, subst, arith, if◌then◌else◌, cond_both, slice_index, slice_get, All-head, All-tail, Idn, status_of, word_at, Request, Job, Outcome, Answer, bytes_in, PlanView, Begun, answers_it, answer_in, with_answer, begun_by, Known, IsKnown, Task, member, startup, tasks_from, tasks_for, after_reads, bytes_of, idn, declared_times, reads, reads_count, writes_word, writes_list, writes, ended_well, checking, agenda, count_requests, Call, Past, IsPlanned, past, outcomes, after_taken, settled, with_begin, ready_to_send, is_sent_to, addressed_in, after_mdt, settles, begins_next, channel_keeps, past_keeps, IsTypedRequest, AreTypedJobs, cases_Bool, cases_Option, inl, inr, AllByRecursion, task_begun, MasterMdt, ChannelCall, Send}
use Rattle.sercos_law_run.proofs.Start.Nested.{◌&◌}
use Rattle.sercos_law_run.proofs.Typed.Words.{AreWords, bytes_of_words}
use Rattle.sercos_law_run.proofs.Typed.Steps.{AreBegun}
use Rattle.sercos_law_run.proofs.Typed.Plans.{IsTimed, PlanWords, plan_words, AreIdns, IsMember}
use Rattle.std.proofs.lemmas.List.Elements.{All-append, All-drop, All-from_recursion, recursion_from_All}

abbrev pub AreRequests : List Request → Type 0
AreRequests requests = AllByRecursion IsTypedRequest requests

abbrev pub AreTasks : List Task → Type 0
AreTasks tasks = AllByRecursion (λ t. IsTypedRequest t.request) tasks

every_append : {X : Type 0} (P : X → Type 0) (xs ys : List X) → AllByRecursion P xs → AllByRecursion P ys → AllByRecursion P (xs ++ ys)
every_append P xs ys left right =
    recursion_from_All P (xs ++ ys) (All-append P xs ys (All-from_recursion P xs left) (All-from_recursion P ys right))

started : (phase : ℕ) (requests : List Request) → AreRequests requests → AreTasks (map (startup phase) requests)
started phase [] are = tt
started phase (r ∷ requests) are = (are.0, started phase requests are.1)

-- THE AGENDA
attributes_so : (idns : List Idn) → AreIdns idns → AreRequests (map (λ i. Request.Read i 3) idns)
attributes_so [] are = tt
attributes_so (i ∷ idns) are = ((are.0, (omega arith, omega arith)), attributes_so idns are.1)

time_so : (raw : ℕ) → raw < 65536 → IsTypedRequest (Request.Read (idn raw) 7)
time_so raw low = (low, (omega arith, omega arith))

word_so : (raw value : ℕ) → raw < 65536 → value < 65536 → IsTypedRequest (writes_word raw value)
word_so raw value low small = (low, (omega arith, omega arith), bytes_of_words (value ∷ []) (small, tt), omega arith)

raws : (idns : List Idn) → AreIdns idns → AreWords (map (λ i. i.raw) idns)
raws [] are = tt
raws (i ∷ idns) are = (are.0, raws idns are.1)

raws_long : (idns : List Idn) → length (bytes_in (map (λ i. i.raw) idns)) ≡ 2 * length idns
raws_long [] = refl
raws_long (i ∷ idns) = omega (arith, raws_long idns)

list_so : (raw : ℕ) (idns : List Idn) → raw < 65536 → AreIdns idns → length idns ≤ 16 → IsTypedRequest (writes_list raw idns)
list_so raw idns low are few = (low, (omega arith, omega arith), bytes_of_words (map (λ i. i.raw) idns) (raws idns are), omega (arith, raws_long idns, few))

checking_so : (phase command list : ℕ) (o : Option Outcome) (next : List Task) → command < 65536 → list < 65536 → AreTasks next → AreTasks (checking phase command list o next)
checking_so phase command list None next low small are = (low, tt)
checking_so phase command list (Some o) next low small are = (
  low,
  elim (cases_Bool (ended_well (bytes_of o))) [
    | inl on ↦ rw on are
    | inr off ↦ rw off ((small, (omega arith, omega arith)), tt)
  ],
)

-- the plan's numbers are words, if there is a plan
abbrev pub AreNumbers : Option PlanView → ℕ → Type 0
AreNumbers plan k = IfSome plan (λ p. PlanWords p k)

agenda_so : (s : Known) (plan : Option PlanView) (waiting : List Task) (k : ℕ) (outs : List Outcome) → IsTimed s → IsMember (member s k) → AreNumbers plan k → AreTasks waiting → AreTasks (agenda s plan waiting k outs)
agenda_so s plan waiting k outs timed is numbers are = every_append (λ t. IsTypedRequest t.request) (map (startup 2) (reads (member s k))) _
    (started 2 (reads (member s k)) (every_append IsTypedRequest (map (λ raw. Request.Read (idn raw) 7) declared_times) _
    (time_so 3 (omega arith) & time_so 4 (omega arith) & time_so 5 (omega arith) & time_so 87 (omega arith) & time_so 88 (omega arith)
    & time_so 90 (omega arith) & tt)
    (attributes_so ((member s k).at ++ (member s k).mdt)
    (every_append (λ i. i.raw < 65536) (member s k).at (member s k).mdt is.at is.mdt)))) (by plan numbers)
  where
    by : (o : Option PlanView) → AreNumbers o k → AreTasks (after_reads s o waiting k outs)
    by None numbers = tt
    by (Some p) numbers = every_append (λ t. IsTypedRequest t.request) (map (startup 2) (writes s p k)) _
        (started 2 (writes s p k) (word_so 1 s.control (omega arith) timed.control
        & word_so 2 s.cycle (omega arith) timed.cycle
        & word_so 6 (slice_index p.t1 k) (omega arith) numbers.t1
        & word_so 7 p.t4 (omega arith) numbers.t4
        & word_so 8 p.t3 (omega arith) numbers.t3
        & word_so 9 (slice_index p.position k) (omega arith) numbers.position
        & word_so 10 p.mdt_len (omega arith) numbers.mdt_len
        & word_so 15 7 (omega arith) (omega arith)
        & list_so 16 (member s k).at (omega arith) is.at is.at_few
        & list_so 24 (member s k).mdt (omega arith) is.mdt is.mdt_few
        & word_so 89 p.t2 (omega arith) numbers.t2
        & tt))
        (checking_so 2 127 21 (slice_get outs (reads_count (member s k) + 11)) _ (omega arith) (omega arith)
        (checking_so 3 128 22 (slice_get outs (reads_count (member s k) + 12)) waiting (omega arith) (omega arith) are))

task_there : (tasks : List Task) (i : ℕ) → AreTasks tasks → IfSome (slice_get tasks i) (λ t. IsTypedRequest t.request)
task_there [] i are = tt
task_there (t ∷ tasks) zero are = are.0
task_there (t ∷ tasks) (suc i) are = task_there tasks i are.1

-- THE JOBS
jobs_so : (address i : ℕ) (jobs : List Job) → AreTypedJobs jobs → AreTasks (tasks_from address i jobs)
jobs_so address i [] are = tt
jobs_so address i (job ∷ jobs) are = elim (cases_Bool (job.drive == address)) [
  | inl on ↦
      rw on (
        All-head (λ (j : Job). IsTypedRequest j.request) job jobs are,
        (jobs_so address (i + 1) jobs (All-tail (λ (j : Job). IsTypedRequest j.request) job jobs are)),
      )
  | inr off ↦ rw off (jobs_so address (i + 1) jobs (All-tail (λ (j : Job). IsTypedRequest j.request) job jobs are))
]

pub tasks_so : (s : Known) (jobs : List Job) (k : ℕ) → AreTypedJobs jobs → AreTasks (tasks_for s jobs k)
tasks_so s jobs k are = jobs_so (member s k).address 1 jobs are

-- WHAT THE MASTER LOOKS BACK ON: what waits, and what was begun
pub record IsTypedPast (p : Past) : Type 0 where
  pub waiting : (k : ℕ) → AreTasks (p.waiting k)
  pub begun : (k : ℕ) → AreBegun (begun_by (p.calls k))

answered : (a : Answer) (begun : List Begun) → AreBegun begun → AreBegun (with_answer a begun)
answered a [] are = tt
answered a (b ∷ past) are = are

taken_so : (i : ℕ) (content : List ℕ) (p : Past) → IsTypedPast p → IsTypedPast (after_taken i content p)
taken_so i content p are = record {
  waiting = are.waiting;
  begun = λ k. channel_keeps (λ calls. AreBegun (begun_by calls)) i k content p (are.begun k)
      (λ same. cond_both (answers_it (begun_by (p.calls k)) (status_of (word_at content 1)))
      (with_answer (answer_in (status_of (word_at content 1)) (word_at content 3)) (begun_by (p.calls k)))
      (begun_by (p.calls k))
      AreBegun (λ on. answered (answer_in (status_of (word_at content 1)) (word_at content 3)) (begun_by (p.calls k)) (are.begun k))
      (λ off. (are.begun k)));
}

begins_so : (s : Known) (q : Past) (k : ℕ) → IsTimed s → IsMember (member s k) → AreNumbers q.plan k → IsTypedPast q → AreBegun (begun_by (with_begin (task_begun s q k) (q.calls k)))
begins_so s q k timed is numbers are = by (task_begun s q k) refl
  where
    by : (o : Option Task) → task_begun s q k ≡ o → AreBegun (begun_by (with_begin o (q.calls k)))
    by None some = are.begun k
    by (Some t) some = (
      subst (λ (o : Option Task). IfSome o (λ t. IsTypedRequest t.request)) (begins_next s q k t some).next
          (task_there (agenda s q.plan (q.waiting k) k (outcomes q k)) (length (outcomes q k)) (agenda_so s q.plan (q.waiting k) k (outcomes q k) timed is numbers (are.waiting k))),
      are.begun k,
    )

mdt_so : (s : Known) (p : Past) → IsTimed s → ((k : ℕ) → IsMember (member s k)) → ((k : ℕ) → AreNumbers (settled s p).plan k) → IsTypedPast p → IsTypedPast (after_mdt s p)
mdt_so s p timed is numbers are = record { waiting = settles_so.waiting; begun = λ k. by k (is_sent_to (ready_to_send s p) (addressed_in s (ready_to_send s p)) k) }
  where
    settles_so : IsTypedPast (settled s p)
    settles_so = let q = settles s p in record {
      waiting = λ k. subst (λ (w : ℕ → List Task). AreTasks (w k)) (sym q.waiting) (are.waiting k);
      begun = λ k. subst (λ (c : ℕ → List ChannelCall). AreBegun (begun_by (c k))) (sym q.calls) (are.begun k);
    }

    by : (k : ℕ) (b : Bool) → AreBegun (begun_by (if b then Send ∷ (ready_to_send s p).calls k else (ready_to_send s p).calls k))
    by k true = begins_so s (settled s p) k timed (is k) (numbers k) settles_so
    by k false = begins_so s (settled s p) k timed (is k) (numbers k) settles_so

pub typed_past : (s : Known) → IsKnown s → IsTimed s → ((k : ℕ) → IsMember (member s k)) → (requests : ℕ → List Task) → ((h : List Call) → IsPlanned s (past s requests h)) → ((k : ℕ) → AreTasks (requests k)) → (h : List Call) → IsTypedPast (past s requests h)
typed_past s known timed is requests planned are = past_keeps IsTypedPast s requests (record {
  first = record { waiting = are; begun = λ k. tt };
  mst = λ h whole before. record { waiting = before.waiting; begun = before.begun };
  taken = λ h k content inside is. taken_so k content (past s requests h);
  mdt = λ h. mdt_so s (past s requests h) timed is (λ k. elim (cases_Option (past s requests (MasterMdt ∷ h)).plan) [
    | inl is ↦ rw is tt
    | inr (p, is) ↦ rw is (let made = planned (MasterMdt ∷ h) p is in
        plan_words s (outcomes (past s requests (MasterMdt ∷ h))) p k known made.fits made.planned_is)
  ]);
  on = λ h done is before. record { waiting = before.waiting; begun = before.begun };
  new = λ h cycle. λ are. record {
    waiting = λ k. recursion_from_All (λ t. IsTypedRequest t.request) _
        (All-drop (λ t. IsTypedRequest t.request) (count_requests ((past s requests h).tasks k)) ((past s requests h).waiting k)
        (All-from_recursion (λ t. IsTypedRequest t.request) ((past s requests h).waiting k) (are.waiting k)));
    begun = λ k. tt;
  };
})
