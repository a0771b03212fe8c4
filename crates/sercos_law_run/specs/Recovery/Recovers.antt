-- What becomes of a run after its last fault. The newest cycle of a journal comes first.
use Rattle.std.specs.Prelude.{◌≡◌, ◌⊎◌, ℕ, ◌+◌, ◌*◌, ◌<◌, ◌≤◌, List, [], ◌∷◌, ◌++◌, length, Option, Some, None, slice_get}
use Rattle.sercos_step.specs.declared.request.Job.{Job}
use Rattle.sercos_block.specs.Views.{RingView}
use Rattle.sercos_law_run.specs.Bounds.Bounds.{fall_cycles, recovery_bound, return_cycles, stop_cycles}
use Rattle.sercos_trace.specs.Views.{CycleView}
use Rattle.sercos_trace.specs.declared.events.Fall.{Fall}
use Rattle.sercos_trace.specs.declared.events.Stop.{Stop}
use Rattle.sercos_script.specs.Links.{Carry, Restarts}
use Rattle.sercos_law_run.specs.Journal.Runs.{IsClear, IsRun}
use Rattle.sercos_law_run.specs.Held.Opened.{IsOpened}
use Rattle.sercos_law_run.specs.Undisturbed.Reports.{HaveTold, left_after, request_cycles}
use Rattle.sercos_law_run.specs.Undisturbed.StartUps.{TellsNoFall}
use Rattle.sercos_law_run.specs.Undisturbed.StopsLater.{IsRight}
use Rattle.sercos_law_run.specs.Undisturbed.Undisturbed.{AreUndisturbed}
use Rattle.sercos_law_run.specs.Undisturbed.WholeRuns.{StopsForCause}
use Rattle.sercos_law_run.specs.Recovery.AfterFalls.{StartsAgain}

-- THE MASTER IS AT A STOP: the record of one of these cycles has it, and neither that one nor a later one has a fall.
abbrev pub StandsAt : Stop → List CycleView → Type 0
StandsAt x [] = ⊥
StandsAt x (t ∷ j) = (t.events.fall ≡ None) × ((t.events.stop ≡ Some x) ⊎ StandsAt x j)

-- The ring is back: phase 4 is commanded in the newest cycle, and the ring is right; or the master is at a stop for its cause.
abbrev pub IsBack : RingView → CycleView → List CycleView → Type 0
IsBack r t j = ((t.phase ≡ 4) × IsRight r) ⊎ ((x : Stop) × StandsAt x (t ∷ j) × StopsForCause r x)

-- SOONER, by the numbers of the ring's drives. If none is disturbed after the cycle `lost`, then no fall is reported, nor a request as
-- broken, once the ring has had its time to fall. From a start-up later on, phase 4 is commanded if the ring is right; and from 41 steps
-- more of the slowest drive on, the ring is back anyway. And if phase 4 is commanded, the request to a drive at place i of those that
-- weren't reported after `lost`, counted from 0, has been reported since: at the latest i + 1 times the cycles of one request after that
-- start-up.
pub record ReturnsIn (r : RingView) (jobs : List Job) (carry : Carry) (restarts : Restarts) (t : CycleView) (j : List CycleView) :
    Type 0 where
  pub tells : (cycles before : List CycleView) (lost : CycleView) → j ≡ cycles ++ lost ∷ before →
      AreUndisturbed r carry restarts (t ∷ cycles) (lost ∷ before) → length before + fall_cycles r ≤ length j → TellsNoFall t
  pub rises : (cycles before : List CycleView) (lost : CycleView) → j ≡ cycles ++ lost ∷ before →
      AreUndisturbed r carry restarts (t ∷ cycles) (lost ∷ before) → length before + return_cycles r ≤ length j → IsRight r → t.phase ≡ 4
  pub back : (cycles before : List CycleView) (lost : CycleView) → j ≡ cycles ++ lost ∷ before →
      AreUndisturbed r carry restarts (t ∷ cycles) (lost ∷ before) →
      length before + return_cycles r + stop_cycles r ≤ length j → IsBack r t j
  pub reports : (cycles before : List CycleView) (lost : CycleView) → j ≡ cycles ++ lost ∷ before →
      AreUndisturbed r carry restarts (t ∷ cycles) (lost ∷ before) → t.phase ≡ 4 → (k i : ℕ) (x : Option ℕ) → k < length r.drives →
      slice_get (left_after r jobs carry restarts (lost ∷ before) k) i ≡ Some x →
      length before + return_cycles r + (i + 1) * request_cycles r k ≤ length j →
      (number : ℕ) × (x ≡ Some number) × HaveTold (t ∷ cycles) number

-- What holds of the newest cycle. If no cycle is disturbed after one whose record has a fall, the ring has started up again since. If none
-- is disturbed after the cycle `lost`, then from the bound of a recovery after `lost` on the ring is back, and no fall is reported, nor a
-- request as broken. And if phase 4 is commanded, the request to a drive at place i of those that weren't reported after `lost`, counted
-- from 0, has been reported since: at the latest i + 1 times the cycles of one request after that bound. The ring returns sooner, by the
-- numbers of its drives.
pub record RecoversIn (r : RingView) (jobs : List Job) (carry : Carry) (restarts : Restarts) (t : CycleView)
    (j : List CycleView) : Type 0 where
  pub after_fall : (cycles before : List CycleView) (f : CycleView) (x : Fall) → j ≡ cycles ++ f ∷ before →
      AreUndisturbed r carry restarts (t ∷ cycles) (f ∷ before) → f.events.fall ≡ Some x →
      StartsAgain r jobs carry restarts t cycles (f ∷ before)
  pub back : (cycles before : List CycleView) (lost : CycleView) → j ≡ cycles ++ lost ∷ before →
      AreUndisturbed r carry restarts (t ∷ cycles) (lost ∷ before) → length before + recovery_bound r ≤ length j → IsBack r t j
  pub tells : (cycles before : List CycleView) (lost : CycleView) → j ≡ cycles ++ lost ∷ before →
      AreUndisturbed r carry restarts (t ∷ cycles) (lost ∷ before) → length before + recovery_bound r ≤ length j → TellsNoFall t
  pub reports : (cycles before : List CycleView) (lost : CycleView) → j ≡ cycles ++ lost ∷ before →
      AreUndisturbed r carry restarts (t ∷ cycles) (lost ∷ before) → t.phase ≡ 4 → (k i : ℕ) (x : Option ℕ) → k < length r.drives
      → slice_get (left_after r jobs carry restarts (lost ∷ before) k) i ≡ Some x →
      length before + recovery_bound r + (i + 1) * request_cycles r k ≤ length j → (number : ℕ) × (x ≡ Some number) ×
      HaveTold (t ∷ cycles) number
  pub sooner : ReturnsIn r jobs carry restarts t j

-- RECOVERY. This holds in each cycle of a run, as long as nothing is undetected, regardless of losses and restarts.
abbrev pub Recovers : Type 0
Recovers = (r : RingView) (jobs : List Job) (carry : Carry) (restarts : Restarts) (t : CycleView) (j : List CycleView) → IsOpened r jobs →
    IsRun r jobs carry restarts (t ∷ j) → IsClear (t ∷ j) → RecoversIn r jobs carry restarts t j
