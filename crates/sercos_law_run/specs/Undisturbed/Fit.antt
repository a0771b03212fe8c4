-- What phases 3 and 4 imply for a ring. The newest cycle of a journal comes first.
use Rattle.std.specs.Prelude.{◌≡◌, ℕ, ◌<◌, ◌≤◌, false, List, ◌∷◌, length}
use Rattle.std.specs.List.{list_any}
use Rattle.sercos_step.specs.declared.request.Job.{Job}
use Rattle.sercos_timing.specs.Inequalities.{Fits}
use Rattle.sercos_timing.specs.Views.{PlanView}
use Rattle.sercos_block.specs.Rings.{wishes_of}
use Rattle.sercos_block.specs.Views.{RingView}
use Rattle.sercos_command.specs.Checks.{is_outside}
use Rattle.sercos_trace.specs.Views.{CycleView}
use Rattle.sercos_script.specs.Links.{Carry, Restarts}
use Rattle.sercos_law_run.specs.Journal.Runs.{drive_at, IsRun, IsClear}
use Rattle.sercos_law_run.specs.Held.Opened.{IsOpened}

-- A plan fits the ring's requirements, and the cycle time lies within the limits of each drive.
pub record IsFit (r : RingView) : Type 0 where
  pub plan : PlanView
  pub fits : Fits (wishes_of r) plan
  pub low : (k : ℕ) → k < length r.drives → (drive_at r k).cycle_min ≤ r.cycle
  pub high : (k : ℕ) → k < length r.drives → r.cycle ≤ (drive_at r k).cycle_max

-- So it is of a ring that is commanded phase 3 or 4, in every run in which nothing was unseen.
abbrev pub FitsInThree : Type 0
FitsInThree = (r : RingView) (jobs : List Job) (carry : Carry) (restarts : Restarts) (t : CycleView) (j : List CycleView) →
    IsOpened r jobs → IsRun r jobs carry restarts (t ∷ j) → IsClear (t ∷ j) → 3 ≤ t.phase → IsFit r

-- And in phase 4, none of the drives' own blocks was outside its limits at opening.
abbrev pub OwnFitsInFour : Type 0
OwnFitsInFour = (r : RingView) (jobs : List Job) (carry : Carry) (restarts : Restarts) (t : CycleView) (j : List CycleView) (k : ℕ) →
    IsOpened r jobs → IsRun r jobs carry restarts (t ∷ j) → IsClear (t ∷ j) → k < length r.drives → t.phase ≡ 4 →
    list_any is_outside (drive_at r k).blocks ≡ false
