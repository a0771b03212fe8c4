-- What becomes of a run after a fall, if no later cycle is disturbed. The newest cycle of a journal comes first.
use Rattle.std.specs.Prelude.{◌≡◌, ◌⊎◌, ℕ, ◌+◌, ◌*◌, ◌<◌, ◌≤◌, true, List, ◌∷◌, ◌++◌, length, Some, slice_get}
use Rattle.sercos_step.specs.declared.request.Job.{Job}
use Rattle.sercos_block.specs.Startup.{startup_bound}
use Rattle.sercos_block.specs.Views.{RingView}
use Rattle.sercos_law_run.specs.Bounds.Bounds.{stop_cycles}
use Rattle.sercos_service_master.specs.Begun.{answers_it}
use Rattle.sercos_trace.specs.Views.{CycleView}
use Rattle.sercos_trace.specs.declared.events.Fall.{Fall}
use Rattle.sercos_trace.specs.declared.events.Stop.{Stop}
use Rattle.sercos_seat.specs.Ring.{Task}
use Rattle.sercos_script.specs.Links.{Carry, Restarts}
use Rattle.sercos_law_channel.specs.Handshake.Epochs.{epoch_begun}
use Rattle.sercos_law_channel.specs.Handshake.Views.{Heard}
use Rattle.sercos_law_channel.specs.Pace.Ages.{age_in}
use Rattle.sercos_law_run.specs.Journal.Runs.{drive_at, IsClear, IsRun}
use Rattle.sercos_law_run.specs.Views.RingViews.{view_of, views_of}
use Rattle.sercos_law_run.specs.Held.Opened.{IsOpened}
use Rattle.sercos_law_run.specs.Undisturbed.Fit.{IsFit}
use Rattle.sercos_law_run.specs.Undisturbed.Reports.{HaveTold, request_cycles, waiting_after}
use Rattle.sercos_law_run.specs.Undisturbed.StartUps.{TellsNoFall}
use Rattle.sercos_law_run.specs.Undisturbed.StopsLater.{IsRight}
use Rattle.sercos_law_run.specs.Undisturbed.Undisturbed.{AreUndisturbed}
use Rattle.sercos_law_run.specs.Undisturbed.WholeRuns.{HasTold, StopsForCause}

-- What holds of a cycle of an epoch, which is in phase 0 after the cycles `before`; those between them and this one are `cycles`. No fall
-- is reported, and no broken request. From the cycle of the epoch that is the bound of a start-up on, phase 4 is commanded if the ring is
-- right; it is commanded only if it is; and once commanded, it stays. Phase 3 is commanded only if a plan fits, and the cycle time lies
-- within each drive's limits. From 41 steps of the slowest drive after that bound on, phase 4 is commanded, or the master has reported a
-- stop since for its cause; and after a stop no other is reported. No step is open for longer than the busy time of its drive and one
-- cycle, and its answer arrives exactly that long after the cycle in which it was begun, and first sent. If phase 4 is commanded, the
-- request to a drive at place i of those that waited when the epoch began, counted from 0, has been reported since: at the latest i + 1
-- times the cycles of one request after the bound of a start-up.
pub record StartsAgain (r : RingView) (jobs : List Job) (carry : Carry) (restarts : Restarts) (t : CycleView)
    (cycles before : List CycleView) : Type 0 where
  pub tells : TellsNoFall t
  pub rises : startup_bound r ≤ length cycles → IsRight r → t.phase ≡ 4
  pub right : t.phase ≡ 4 → IsRight r
  pub fit : 3 ≤ t.phase → IsFit r
  pub stays : (u : CycleView) (older : List CycleView) → cycles ≡ u ∷ older → u.phase ≡ 4 → t.phase ≡ 4
  pub ends : startup_bound r + stop_cycles r ≤ length cycles → ((t.phase ≡ 4) × IsRight r) ⊎
      ((x : Stop) × HasTold x (t ∷ cycles) × StopsForCause r x)
  pub once : (x y : Stop) → HasTold x cycles → t.events.stop ≡ Some y → ⊥
  pub ages : (k : ℕ) → k < length r.drives → age_in (views_of r jobs carry restarts k (t ∷ (cycles ++ before))) ≤ (drive_at r k).busy + 1
  pub answers : (k : ℕ) (a : Heard) → k < length r.drives → (view_of r jobs carry restarts k t (cycles ++ before)).heard ≡ Some a →
      answers_it (epoch_begun (views_of r jobs carry restarts k (cycles ++ before))) a.status ≡ true →
      age_in (views_of r jobs carry restarts k (cycles ++ before)) ≡ (drive_at r k).busy + 1
  pub reports : t.phase ≡ 4 → (k i : ℕ) (x : Task) → k < length r.drives →
      slice_get (waiting_after r jobs carry restarts before k) i ≡ Some x → startup_bound r + (i + 1) * request_cycles r k ≤ length cycles →
      (number : ℕ) × (x.number ≡ Some number) × HaveTold (t ∷ cycles) number

-- AFTER A FALL. If the record of cycle f has a fall, a restart of the master included, and no cycle after it is disturbed, the ring starts
-- up again in the cycle after f, regardless of losses before, if nothing was undetected. If the master restarts in f, the epoch begins in
-- that very cycle; what is counted here begins in the next one.
abbrev pub AfterFall : Type 0
AfterFall = (r : RingView) (jobs : List Job) (carry : Carry) (restarts : Restarts) (t f : CycleView) (cycles before : List CycleView)
    (x : Fall) → IsOpened r jobs → IsRun r jobs carry restarts (t ∷ (cycles ++ f ∷ before)) →
    IsClear (t ∷ (cycles ++ f ∷ before)) → AreUndisturbed r carry restarts (t ∷ cycles) (f ∷ before) → f.events.fall ≡ Some x →
    StartsAgain r jobs carry restarts t cycles (f ∷ before)
