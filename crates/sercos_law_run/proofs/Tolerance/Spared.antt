-- In phases 3 and 4 no two cycles in a row are late for a drive.
use Rattle.sercos_law_run.proofs.Words.{◌⊎◌, inl, inr, ℕ, ◌<◌, ◌≤◌, List, [], ◌∷◌, ◌++◌, length, arith, Job, RingView, CycleView, Carry, Restarts, drive_at, IsClear, IsRun, views_of, IsOpened, StartsEpoch, AreSparse}
use Rattle.sercos_law_run.proofs.Tolerance.Borne.{all_borne, before_lost, calm_or_not, zero_is}
use Rattle.sercos_law_run.proofs.Tolerance.Steps.{IsYoung}

module _ (r : RingView) (jobs : List Job) (carry : Carry) (restarts : Restarts) (opened : IsOpened r jobs) where
  pub spared_in : (t : CycleView) (cycles before : List CycleView) → IsRun r jobs carry restarts (t ∷ (cycles ++ before))
      → IsClear (t ∷ (cycles ++ before)) → StartsEpoch r jobs carry restarts before → AreSparse r carry restarts (t ∷ cycles) before
      → 3 ≤ t.phase → (k : ℕ) → k < length r.drives
      → IsYoung (drive_at r k).busy 0 0 (views_of r jobs carry restarts k (t ∷ (cycles ++ before)))
      ⊎ (IsYoung (drive_at r k).busy 1 1 (views_of r jobs carry restarts k (t ∷ (cycles ++ before)))
      × IsYoung (drive_at r k).busy 0 0 (views_of r jobs carry restarts k (cycles ++ before)))
  spared_in t [] before run clear starts sparse late k below =
      let none = zero_is r jobs carry restarts opened t before run clear starts (sparse.1.goes_on 0 (omega arith)) in absurd (omega (arith, none, late))
  spared_in t (u ∷ rest) before run clear starts sparse late k below = elim (calm_or_not r carry restarts t (u ∷ (rest ++ before))) [
    | inr calm ↦ inl (((all_borne r jobs carry restarts opened t (u ∷ rest) before run clear starts sparse).aged k below).calm calm
        (inl late))
    | inl disturbed ↦ inr (
      ((all_borne r jobs carry restarts opened t (u ∷ rest) before run clear starts sparse).aged k below).lost disturbed,
      before_lost r jobs carry restarts opened t u (rest ++ before) run clear (all_borne r jobs carry restarts opened u rest before run.0
          clear.0 starts sparse.0) sparse.1 k
          below disturbed (omega (arith, late)),
    )
  ]
