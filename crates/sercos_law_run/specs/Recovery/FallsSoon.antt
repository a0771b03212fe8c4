-- How soon the ring falls, if it does, while no drive is in phase 0. The newest cycle of a journal comes first.
use Rattle.std.specs.Prelude.{ℕ, ◌+◌, ◌<◌, ◌≤◌, List, ◌∷◌, ◌++◌, length}
use Rattle.sercos_step.specs.declared.request.Job.{Job}
use Rattle.sercos_block.specs.Views.{RingView}
use Rattle.sercos_law_run.specs.Bounds.Bounds.{slowest}
use Rattle.sercos_trace.specs.Views.{CycleView}
use Rattle.sercos_script.specs.Links.{Carry, Restarts}
use Rattle.sercos_law_run.specs.Journal.Runs.{IsClear, IsRun}
use Rattle.sercos_law_run.specs.Held.Opened.{IsOpened}
use Rattle.sercos_law_run.specs.Undisturbed.EpochStarts.{Falls}
use Rattle.sercos_law_run.specs.Undisturbed.Undisturbed.{IsUndisturbed}
use Rattle.sercos_law_run.specs.Recovery.Stretches.{IsDown, IsStretch}

-- If the ring falls at the end of an undisturbed cycle of phase 2 or later, after undisturbed cycles without a fall, and no drive is in
-- phase 0 before it: the cycles between the first and it are at most the busy time of the slowest drive and one.
abbrev pub FallsSoon : Type 0
FallsSoon = (r : RingView) (jobs : List Job) (carry : Carry) (restarts : Restarts) (t : CycleView) (cycles : List CycleView)
    (first : CycleView) (before : List CycleView) → IsOpened r jobs →
    IsRun r jobs carry restarts (t ∷ (cycles ++ first ∷ before)) → IsClear (t ∷ (cycles ++ first ∷ before)) →
    IsStretch r jobs carry restarts cycles first before → IsUndisturbed r carry restarts t (cycles ++ first ∷ before) → 2 ≤ t.phase →
    ((k : ℕ) → k < length r.drives → IsDown r jobs carry restarts k (cycles ++ first ∷ before) → ⊥) →
    Falls r jobs carry restarts t (cycles ++ first ∷ before) → length cycles ≤ slowest r.drives + 1
