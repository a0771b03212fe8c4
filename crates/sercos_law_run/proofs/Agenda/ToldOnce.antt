-- No request is reported twice.
use Rattle.sercos_law_run.proofs.Words.{ℕ, ◌+◌, ◌≤◌, List, [], ◌∷◌, sym, subst, arith, Option, Some, None, Task, tasks_for, Report, past, channel_at, Ascend, Descend, TellsOnce, after_told, still_to_tell, task_numbers, told}
use Rattle.sercos_law_run.proofs.Agenda.ReportedRuns.{tells_in_order}
use Rattle.sercos_law_run.proofs.Agenda.Requests.{are_requests}

-- numbers that are at least this one, and rise
abbrev Rise : ℕ → List (Option ℕ) → Type 0
Rise i [] = Unit {0}
Rise i (None ∷ numbers) = ⊥
Rise i (Some n ∷ numbers) = (i ≤ n) × Rise (n + 1) numbers

rises : (i : ℕ) (tasks : List Task) → Ascend i tasks → Rise i (task_numbers tasks)
rises i [] up = tt
rises i (t ∷ tasks) up = subst (λ (o : Option ℕ). Rise i (o ∷ task_numbers tasks)) (sym up.1) (up.2, rises (up.0 + 1) tasks up.3)

-- the newest of the reports comes before these numbers
abbrev StartsAfter : List Report → List (Option ℕ) → Type 0
StartsAfter [] numbers = (i : ℕ) × Rise i numbers
StartsAfter (r ∷ reports) numbers = Rise (r.number + 1) numbers

split : (i : ℕ) (reports : List Report) (numbers : List (Option ℕ)) → Rise i (after_told reports numbers) → StartsAfter reports numbers × Descend reports
split i [] numbers up = ((i, up), tt)
split i (r ∷ reports) numbers up = by reports (split i reports (Some r.number ∷ numbers) up)
  where
    by : (older : List Report) → StartsAfter older (Some r.number ∷ numbers) × Descend older → StartsAfter (r ∷ older) numbers × Descend (r ∷ older)
    by [] (first, down) = (first.1.1, tt)
    by (q ∷ older) (first, down) = (first.1, (omega (arith, first.0), down))

pub tells_once : TellsOnce
tells_once s jobs h k there order =
    let are = are_requests s jobs k in
    (split 1 (told s (tasks_for s jobs) k h) (still_to_tell (channel_at (past s (tasks_for s jobs) h) k))
    (subst (Rise 1) (sym (tells_in_order s (tasks_for s jobs) h k are.1 there order)) (rises 1 (tasks_for s jobs k) are.2))).1
