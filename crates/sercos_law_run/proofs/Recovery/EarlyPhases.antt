-- In an undisturbed cycle of phase 1 each drive is in it at once, whatever was lost before.
use Rattle.sercos_law_run.proofs.Words.{◌≡◌, ℕ, ◌<◌, Bool, not, ◌&&◌, List, ◌∷◌, length, Option, ap, ◌∙◌, arith, if◌then◌else◌, nat_le, is_some, Job, RingView, CycleView, Carry, Restarts, View, before_mst, standing, stood_in, takes_in, drive_at, IsClear, IsRun, view_of, views_of, IsOpened, IsUndisturbed, comes_up}
use Rattle.sercos_law_run.proofs.Headline.HeadlineRuns.{all_stand}
use Rattle.sercos_law_run.proofs.Undisturbed.Arriving.Comes.{calm_in}
use Rattle.sercos_law_run.proofs.Undisturbed.Identified.{phase_comes}

-- A drive that is in phase 1 after the MST's place is so at the cycle's end.
ends_early : (v : View) (past : List View) → stood_in v (standing past) ≡ 1 → (standing (v ∷ past)).ended ≡ 1
ends_early v past one = ap (λ (a : Bool). if a && (not (takes_in v (stood_in v (standing past))) &&
    (before_mst v (standing past)).missed_mdt) then 0 else stood_in v (standing past)) (ap (nat_le 3) one) ∙ one

module _ (r : RingView) (jobs : List Job) (carry : Carry) (restarts : Restarts) (opened : IsOpened r jobs) where
  -- what the drive at a place is in a cycle of phase 1, and at its end
  pub up_in_one : (t : CycleView) (j : List CycleView) → IsRun r jobs carry restarts (t ∷ j) → IsClear (t ∷ j) → IsUndisturbed r carry restarts t j → t.phase ≡ 1 → (k : ℕ) → k < length r.drives → (standing (views_of r jobs carry restarts k (t ∷ j))).ended ≡ 1
  up_in_one t j run clear calm one k below =
      ends_early (view_of r jobs carry restarts k t j) (views_of r jobs carry restarts k j)
      (comes_up (drive_at r k).busy (view_of r jobs carry restarts k t j) (views_of r jobs carry restarts k j) (all_stand r jobs carry restarts opened (t ∷ j) run clear k below).sees.run (omega (arith, one))
      (ap (λ (o : Option ℕ). is_some o) (phase_comes r jobs carry restarts opened t j run.1 (calm_in r carry restarts t j calm) k below)) ∙ one)
