-- In undisturbed cycles every check counts as passed where the master commands the next phase.
use Rattle.sercos_law_run.proofs.Words.{◌≡◌, ℕ, ◌+◌, ◌<◌, List, [], ◌∷◌, ◌++◌, length, refl, ap, arith, or_parts, Job, RingView, CycleView, Carry, Restarts, View, IsRun, IsClear, view_of, views_of, IsOpened, IsPassed, IsUndisturbed, views_since}
use Rattle.sercos_law_run.proofs.Undisturbed.Checks.PassedRuns.{passed_in}
use Rattle.sercos_law_run.proofs.Undisturbed.Arriving.Comes.{none_below}

-- the views of all cycles are those of the last, and those before
pub views_split : (r : RingView) (jobs : List Job) (carry : Carry) (restarts : Restarts) (k : ℕ) (cycles before : List CycleView) → views_of r jobs carry restarts k (cycles ++ before) ≡ views_since r jobs carry restarts k cycles before ++ views_of r jobs carry restarts k before
views_split r jobs carry restarts k [] before = refl
views_split r jobs carry restarts k (t ∷ cycles) before = ap (λ (l : List View). view_of r jobs carry restarts k t (cycles ++ before) ∷ l) (views_split r jobs carry restarts k cycles before)

module _ (r : RingView) (jobs : List Job) (carry : Carry) (restarts : Restarts) (opened : IsOpened r jobs) where
  -- in one undisturbed cycle
  pub passed_undisturbed : (t : CycleView) (j : List CycleView) → IsRun r jobs carry restarts (t ∷ j) → IsClear (t ∷ j) → (k : ℕ) → k < length r.drives → IsUndisturbed r carry restarts t j
      → IsPassed (view_of r jobs carry restarts k t j) (views_of r jobs carry restarts k j)
  passed_undisturbed t j run clear k below undisturbed =
      passed_in r jobs carry restarts opened t j run clear k below (none_below (length r.drives + 1) (restarts (length j)) (or_parts _ _ undisturbed).0 (k + 1) (omega (arith, below)))
