-- How soon the ring falls if a drive is in phase 0 while phase 2 or a later one is commanded. The newest cycle of a journal comes first.
use Rattle.std.specs.Prelude.{◌≡◌, ℕ, ◌+◌, ◌<◌, ◌≤◌, List, ◌∷◌, ◌++◌, length}
use Rattle.std.specs.List.{sum_by}
use Rattle.sercos_step.specs.declared.request.Job.{Job}
use Rattle.sercos_block.specs.Views.{DriveView, RingView}
use Rattle.sercos_law_run.specs.Bounds.Bounds.{section_cycles}
use Rattle.sercos_trace.specs.Views.{CycleView}
use Rattle.sercos_script.specs.Links.{Carry, Restarts}
use Rattle.sercos_law_run.specs.Journal.Runs.{IsClear, IsRun}
use Rattle.sercos_law_run.specs.Held.Opened.{IsOpened}
use Rattle.sercos_law_run.specs.Undisturbed.EpochStarts.{Falls}
use Rattle.sercos_law_run.specs.Undisturbed.Undisturbed.{IsUndisturbed}
use Rattle.sercos_law_run.specs.Recovery.Stretches.{IsDown, IsStretch}

-- the cycles are at most a section of each drive but one, and the limit for that one
pub record IsSpared (r : RingView) (limit cycles : ℕ) : Type 0 where
  pub earlier : List DriveView
  pub one : DriveView
  pub later : List DriveView
  pub are : r.drives ≡ earlier ++ one ∷ later
  pub few : cycles ≤ limit + sum_by section_cycles (earlier ++ later)

-- IF A DRIVE IS IN PHASE 0 at the end of an undisturbed cycle of phase 2 or later, and the ring falls at the end of an undisturbed one
-- after it: the cycles in between are at most the section of phase 2 that each other drive may still have, its reads or its writes, and 65
-- more. They are undisturbed too, and the ring falls at the end of none of them.
abbrev pub FallsInTime : Type 0
FallsInTime = (r : RingView) (jobs : List Job) (carry : Carry) (restarts : Restarts) (t : CycleView) (cycles : List CycleView)
    (first : CycleView) (before : List CycleView) → IsOpened r jobs →
    IsRun r jobs carry restarts (t ∷ (cycles ++ first ∷ before)) → IsClear (t ∷ (cycles ++ first ∷ before)) →
    IsStretch r jobs carry restarts cycles first before → IsUndisturbed r carry restarts t (cycles ++ first ∷ before) → 2 ≤ first.phase →
    Falls r jobs carry restarts t (cycles ++ first ∷ before) → (d : ℕ) → d < length r.drives →
    IsDown r jobs carry restarts d (first ∷ before) → IsSpared r 65 (length cycles)
