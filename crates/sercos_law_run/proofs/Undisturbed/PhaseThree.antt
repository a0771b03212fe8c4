-- What phase 3 asks of the check for phase 4, and how it is come to.
use Rattle.sercos_law_run.proofs.Words.{◌≡◌, inl, inr, ℕ, suc, ◌≤◌, false, List, [], ◌∷◌, length, Option, sym, ap, ◌∙◌, arith, false≢true, Outcome, outcome_of, PlanView, Begun, is_ready, outcomes_in, Known, MemberView, Task, AreBegunTasks, stays_ready, cases_Bool}
use Rattle.sercos_law_run.proofs.Held.Extended.{Extends}
use Rattle.sercos_law_run.proofs.Undisturbed.EpochCycles.{longer}

-- A CHECK that has ended well stays so, whatever outcome comes.
pub unready_before : (m : MemberView) (old new : List Outcome) → Extends old new → is_ready m new ≡ false → is_ready m old ≡ false
unready_before m old new (o, is) unready = elim (cases_Bool (is_ready m old)) [
  | inl on ↦ absurd (false≢true (sym unready ∙ ap (is_ready m) is ∙ stays_ready m old o on))
  | inr off ↦ off
]

-- all but the newest request have ended
pub begun_few : (s : Known) (k : ℕ) (plan : Option PlanView) (waiting : List Task) (phase n : ℕ) (begun : List Begun) (tasks : List Task) → AreBegunTasks s k plan waiting phase begun tasks → length (outcomes_in begun) ≤ n → length begun ≤ suc n
begun_few s k plan waiting phase n [] tasks are few = omega arith
begun_few s k plan waiting phase n (b ∷ older) [] are few = absurd are
begun_few s k plan waiting phase n (b ∷ older) (t ∷ tasks) are few = let ended = are.1.ended in let grown = longer (outcome_of b.request b.answers) (outcomes_in older) in omega (arith, ended, grown, few)
