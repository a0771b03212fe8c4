-- The requests to a drive: all are of phase 4 and have a number, and the numbers ascend.
use Rattle.sercos_law_run.proofs.Words.{ℕ, zero, suc, ◌+◌, ◌≤◌, List, [], ◌∷◌, drop, refl, arith, ◌==◌, Job, Task, member, tasks_from, tasks_numbered, tasks_wait, AreNumbered, Ascend, AreRequests, cases_Bool, inl, inr, Known, Call, past, still_left, subst, sym}

pub numbered_drop : (n : ℕ) (tasks : List Task) → AreNumbered tasks → AreNumbered (drop n tasks)
numbered_drop zero tasks are = are
numbered_drop (suc n) [] are = are
numbered_drop (suc n) (t ∷ tasks) are = numbered_drop n tasks (λ i u got. are (suc i) u got)

-- so those that wait still do
pub all_numbered : (s : Known) (requests : ℕ → List Task) (h : List Call) → ((j : ℕ) → AreNumbered (requests j)) → (k : ℕ)
    → AreNumbered ((past s requests h).waiting k)
all_numbered s requests h have k =
    let left = still_left s requests h k in subst AreNumbered (sym left.1) (numbered_drop left.0 (requests k) (have k))

lower : (i j : ℕ) (tasks : List Task) → i ≤ j → Ascend j tasks → Ascend i tasks
lower i j [] less up = tt
lower i j (t ∷ tasks) less up = (up.0, up.1, omega (arith, less, up.2), up.3)

pub ascend_from : (address i : ℕ) (jobs : List Job) → Ascend i (tasks_from address i jobs)
ascend_from address i [] = tt
ascend_from address i (job ∷ jobs) = elim (cases_Bool (job.drive == address)) [
  | inl on ↦ rw on (i, refl, omega arith, (ascend_from address (i + 1) jobs))
  | inr off ↦ rw off (lower i (i + 1) (tasks_from address (i + 1) jobs) (omega arith) (ascend_from address (i + 1) jobs))
]

pub are_requests : AreRequests
are_requests s jobs k = (tasks_wait (member s k).address 1 jobs, λ i t got. (tasks_numbered (member s k).address 1 jobs i t got).1, ascend_from (member s k).address 1 jobs)
