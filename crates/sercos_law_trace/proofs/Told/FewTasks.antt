-- Before phase 4 no request of the document is begun: so where the phase rises, a channel has begun at most the requests of the start-up,
-- and all have ended.
use Rattle.sercos_law_trace.proofs.Words.{inr, inl, cases_Option, ◌≡◌, ℕ, suc, ◌+◌, ◌<◌, ◌≤◌, true, List, [], ◌∷◌, length, Option, Some, None, refl, sym, ap, ◌∙◌, arith, length-append, is_none, false≢true, nat_tests, Outcome, outcome_of, Begun, begun_by, PlanView, reads_count, is_ready, outcomes_in, with_outcome, Known, Task, member, AreWaiting, ready_stays, Past, outcomes, is_done, is_done_in, each_passes, IsTask, OfReads, OfWrites, Checks3, Lists3, Checks4, Lists4, OfWaiting, AreBegunTasks, HasBegunTasks, all_ended, rests_so, not_longer, subst}
use Rattle.sercos_law_trace.proofs.Told.GuardedWrites.{HaveEnded}

-- the requests that have ended
ended_each : (begun : List Begun) → length (outcomes_in begun) ≡ length begun → HaveEnded begun
ended_each [] all = tt
ended_each (b ∷ older) all = elim (cases_Option (outcome_of b.request b.answers)) [
  | inl none ↦ absurd (omega (arith, rw none at all, not_longer older))
  | inr (o, some) ↦ (ended_each older (omega (arith, rw some at all, length-append (outcomes_in older) (o ∷ []))), (o, some))
]

-- one outcome more changes nothing where both checks have ended
pub ready_more : (s : Known) (k : ℕ) (all : List Outcome) (o : Option Outcome) → reads_count (member s k) + 12 < length all → is_ready (member s k) (with_outcome o all) ≡ is_ready (member s k) all
ready_more s k all None many = refl
ready_more s k all (Some o) many = ready_stays (member s k) all o many

-- THE TASKS before phase 4. In phase 3 the newest is the list of the check for phase 4 only if that check has ended badly.
pub few_tasks : (s : Known) (k : ℕ) (plan : Option PlanView) (waiting : List Task) (phase : ℕ) (begun : List Begun) (tasks : List Task) → AreWaiting waiting → phase ≤ 3 → AreBegunTasks s k plan waiting phase begun tasks
    → (phase ≡ 3 → is_ready (member s k) (outcomes_in begun) ≡ true) → length begun ≤ reads_count (member s k) + 13
few_tasks s k plan waiting phase [] tasks waits low are ready = omega arith
few_tasks s k plan waiting phase (b ∷ older) [] waits low are ready = absurd are
few_tasks s k plan waiting phase (b ∷ older) (t ∷ tasks) waits low are ready = by are.1.ended are.1.early are.1.task
  where
    by : length (outcomes_in older) ≡ length older → t.phase ≤ phase → IsTask s k are.1.by_then waiting (outcomes_in older) t → suc (length older) ≤ reads_count (member s k) + 13
    by ended early (OfReads r less found is) = omega (arith, less, ended)
    by ended early (OfWrites p i r planned less at found is) = omega (arith, less, at, ended)
    by ended early (Checks3 p planned at is) = omega (arith, at, ended)
    by ended early (Lists3 at failed is) = omega (arith, at, ended)
    by ended early (Checks4 at good is) = omega (arith, at, ended)
    by ended early (Lists4 at failed is) =
        let same = ready_more s k (outcomes_in older) (outcome_of b.request b.answers) (omega (arith, at)) in
        absurd (false≢true (sym failed ∙ sym same ∙ ready (omega (arith, ap (λ (x : Task). x.phase) is, early, low))))
    by ended early (OfWaiting j at good found) = absurd (omega (arith, waits j t found, early, low))

-- WHERE THE PHASE RISES
pub few_at_end : (s : Known) (p : Past) (k : ℕ) → k < length s.drives → AreWaiting (p.waiting k) → HasBegunTasks s p k → is_done s p ≡ true
    → (length (begun_by (p.calls k)) ≤ reads_count (member s k) + 13) × HaveEnded (begun_by (p.calls k))
few_at_end s p k below waits are done = (
  few_tasks s k p.plan (p.waiting k) p.now.phase (begun_by (p.calls k)) (p.tasks k) waits (grind (arith, nat_tests, done)) are
      (λ three. each_passes (length s.drives) 0 (λ j. is_ready (member s j) (outcomes p j)) (subst (λ (n : ℕ). is_done_in n s p ≡ true) three done) k (omega arith) (omega (arith, below))),
  ended_each (begun_by (p.calls k)) (all_ended s k p.plan (p.waiting k) p.now.phase (begun_by (p.calls k)) (p.tasks k) are (ap (λ o. is_none o) (rests_so s p k below waits are done))),
)
