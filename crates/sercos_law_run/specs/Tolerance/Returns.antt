-- What becomes of a ring after its last faults that aren't sparse, while sparse ones go on. The newest cycle of a journal comes first.
use Rattle.std.specs.Prelude.{◌≡◌, ◌⊎◌, ◌+◌, ◌≤◌, List, [], ◌∷◌, ◌++◌, length, Some}
use Rattle.sercos_step.specs.declared.request.Job.{Job}
use Rattle.sercos_block.specs.Views.{RingView}
use Rattle.sercos_trace.specs.Views.{CycleView}
use Rattle.sercos_trace.specs.declared.events.Fall.{Fall}
use Rattle.sercos_script.specs.Links.{Carry, Restarts}
use Rattle.sercos_law_run.specs.Bounds.Bounds.{recovery_bound}
use Rattle.sercos_law_run.specs.Journal.Runs.{IsClear, IsDisturbed, IsRun}
use Rattle.sercos_law_run.specs.Held.Opened.{IsOpened}
use Rattle.sercos_law_run.specs.Undisturbed.StartUps.{TellsNoFall}
use Rattle.sercos_law_run.specs.Undisturbed.StopsLater.{IsRight}
use Rattle.sercos_law_run.specs.Tolerance.Rises.{start_costs}
use Rattle.sercos_law_run.specs.Tolerance.Sparse.{AreSparse}
use Rattle.sercos_law_run.specs.Recovery.Recovers.{IsBack}

-- the record of one of these cycles has a fall
abbrev pub HasFallen : List CycleView → Type 0
HasFallen [] = ⊥
HasFallen (t ∷ j) = ((x : Fall) × (t.events.fall ≡ Some x)) ⊎ HasFallen j

-- What holds of the newest cycle t, after the cycles j. Take a cycle `lost` after which the disturbed cycles are sparse, and no station
-- restarts. At most one fall comes after it: if the record of one of the cycles since has a fall, no later one has, nor reports a request
-- as broken. If `lost` is disturbed itself, as the last cycle is that isn't sparse: from the bound of a recovery after `lost` on, and what
-- the cycles since cost a start-up, phase 4 is commanded, or the master is at a stop for its cause, and phase 4 if the ring is right; and
-- no fall is reported, nor a request as broken.
pub record ReturnsSparse (r : RingView) (jobs : List Job) (carry : Carry) (restarts : Restarts) (t : CycleView) (j : List CycleView) :
    Type 0 where
  pub once : (cycles before : List CycleView) (lost : CycleView) → j ≡ cycles ++ lost ∷ before →
      AreSparse r carry restarts (t ∷ cycles) (lost ∷ before) → HasFallen cycles → TellsNoFall t
  pub back : (cycles before : List CycleView) (lost : CycleView) → j ≡ cycles ++ lost ∷ before →
      AreSparse r carry restarts (t ∷ cycles) (lost ∷ before) → IsDisturbed r carry restarts lost before →
      length before + recovery_bound r + start_costs r jobs carry restarts cycles (lost ∷ before) ≤ length j → IsBack r t j
  pub rises : (cycles before : List CycleView) (lost : CycleView) → j ≡ cycles ++ lost ∷ before →
      AreSparse r carry restarts (t ∷ cycles) (lost ∷ before) → IsDisturbed r carry restarts lost before → IsRight r →
      length before + recovery_bound r + start_costs r jobs carry restarts cycles (lost ∷ before) ≤ length j → t.phase ≡ 4
  pub tells : (cycles before : List CycleView) (lost : CycleView) → j ≡ cycles ++ lost ∷ before →
      AreSparse r carry restarts (t ∷ cycles) (lost ∷ before) → IsDisturbed r carry restarts lost before →
      length before + recovery_bound r + start_costs r jobs carry restarts cycles (lost ∷ before) ≤ length j → TellsNoFall t

-- RECOVERY WHILE SPARSE FAULTS GO ON. This holds in each cycle of a run, as long as nothing is undetected, regardless of losses and
-- restarts.
abbrev pub ReturnsWhileSparse : Type 0
ReturnsWhileSparse = (r : RingView) (jobs : List Job) (carry : Carry) (restarts : Restarts) (t : CycleView) (j : List CycleView) →
    IsOpened r jobs → IsRun r jobs carry restarts (t ∷ j) → IsClear (t ∷ j) → ReturnsSparse r jobs carry restarts t j
