-- What becomes of a ring while disturbed cycles are sparse. The newest cycle of a journal comes first.
use Rattle.std.specs.Prelude.{◌≡◌, ◌⊎◌, ℕ, ◌+◌, ◌*◌, ◌<◌, ◌≤◌, true, false, List, [], ◌∷◌, ◌++◌, length, Some, slice_get}
use Rattle.sercos_step.specs.declared.request.Job.{Job}
use Rattle.sercos_block.specs.Startup.{startup_bound}
use Rattle.sercos_block.specs.Views.{RingView}
use Rattle.sercos_service_master.specs.Begun.{answers_it}
use Rattle.sercos_trace.specs.Views.{CycleView}
use Rattle.sercos_trace.specs.declared.events.Fall.{Fall}
use Rattle.sercos_seat.specs.Ring.{Task}
use Rattle.sercos_script.specs.Links.{Carry, Restarts}
use Rattle.sercos_law_channel.specs.Handshake.Epochs.{epoch_begun}
use Rattle.sercos_law_channel.specs.Handshake.Views.{Heard, View, standing, stood_in}
use Rattle.sercos_law_channel.specs.Pace.Ages.{age_in}
use Rattle.sercos_law_channel.specs.Pace.Passages.{IsUp}
use Rattle.sercos_law_run.specs.Bounds.Bounds.{stop_cycles}
use Rattle.sercos_law_run.specs.Journal.Runs.{drive_at, IsClear, IsRun}
use Rattle.sercos_law_run.specs.Views.RingViews.{view_of, views_of}
use Rattle.sercos_law_run.specs.Held.Opened.{IsOpened}
use Rattle.sercos_law_run.specs.Undisturbed.EpochStarts.{StartsEpoch}
use Rattle.sercos_law_run.specs.Undisturbed.Reports.{HaveTold, request_cycles, waiting_after}
use Rattle.sercos_law_run.specs.Undisturbed.StartUps.{TellsNoFall}
use Rattle.sercos_law_run.specs.Undisturbed.StopsLater.{IsRight}
use Rattle.sercos_law_run.specs.Tolerance.Ends.{IsUpOrStopped}
use Rattle.sercos_law_run.specs.Tolerance.Many.{own_costs, slow_bound}
use Rattle.sercos_law_run.specs.Tolerance.Reports.{cycles_commanded}
use Rattle.sercos_law_run.specs.Tolerance.Rises.{start_costs}
use Rattle.sercos_law_run.specs.Tolerance.Sparse.{AreSparse}

-- a cycle is the first one commanded its phase: the phase below was commanded in the one before
abbrev pub IsFirst : View → List View → Type 0
IsFirst v [] = ⊥
IsFirst v (u ∷ past) = u.phase + 1 ≡ v.phase

-- The drive is one phase below the commanded one, after the MST's place and at the end: it missed the MST of the first cycle commanded this
-- phase, which this cycle is.
pub record IsBehind (v : View) (past : List View) : Type 0 where
  pub missed : v.mst_comes ≡ false
  pub first : IsFirst v past
  pub stood : stood_in v (standing past) + 1 ≡ v.phase
  pub ended : (standing (v ∷ past)).ended + 1 ≡ v.phase

-- it is in the commanded phase, after the MST's place and at the end, or one below it
abbrev pub StandsNear : View → List View → Type 0
StandsNear v past = IsUp v past ⊎ IsBehind v past

-- What holds of a cycle t of an epoch, which is in phase 0 after the cycles `before`; those between them and t are `cycles`. No fall is
-- reported, nor a request as broken. From the second cycle of the epoch on each drive is in the commanded phase, or one below it, in the
-- first cycle commanded this phase, if it missed the MST of it. No step is open for longer than the busy time of its drive and four cycles,
-- or three in phases 3 and 4; and its answer arrives at most that long after the cycle in which it was begun, and first sent. If the ring
-- is right, phase 4 is commanded once the bound of a start-up and the costs of the cycles so far have passed; and once commanded, it stays.
-- However many cycles were disturbed, it is commanded once the bound of a start-up with each drive busy for one cycle more has passed, and
-- ten cycles for each own MST that was lost in phase 0. From 41 steps of the slowest drive after either of these on, phase 4 is commanded,
-- and the ring is right; or a stop for its cause has been reported in the epoch. Of the requests to a drive that waited when the epoch
-- began, the one at place i, counted from 0, has been reported once phase 4 was commanded in i + 1 times the cycles of one request.
pub record Bears (r : RingView) (jobs : List Job) (carry : Carry) (restarts : Restarts) (t : CycleView)
    (cycles before : List CycleView) : Type 0 where
  pub tells : TellsNoFall t
  pub stands : 1 ≤ length cycles → (k : ℕ) → k < length r.drives →
      StandsNear (view_of r jobs carry restarts k t (cycles ++ before)) (views_of r jobs carry restarts k (cycles ++ before))
  pub ages : (k : ℕ) → k < length r.drives → age_in (views_of r jobs carry restarts k (t ∷ (cycles ++ before))) ≤ (drive_at r k).busy + 4
  pub late_ages : 3 ≤ t.phase → (k : ℕ) → k < length r.drives →
      age_in (views_of r jobs carry restarts k (t ∷ (cycles ++ before))) ≤ (drive_at r k).busy + 3
  pub answers : (k : ℕ) (a : Heard) → k < length r.drives → (view_of r jobs carry restarts k t (cycles ++ before)).heard ≡ Some a →
      answers_it (epoch_begun (views_of r jobs carry restarts k (cycles ++ before))) a.status ≡ true →
      age_in (views_of r jobs carry restarts k (cycles ++ before)) ≤ (drive_at r k).busy + 4
  pub late_answers : 3 ≤ t.phase → (k : ℕ) (a : Heard) → k < length r.drives →
      (view_of r jobs carry restarts k t (cycles ++ before)).heard ≡ Some a →
      answers_it (epoch_begun (views_of r jobs carry restarts k (cycles ++ before))) a.status ≡ true →
      age_in (views_of r jobs carry restarts k (cycles ++ before)) ≤ (drive_at r k).busy + 3
  pub rises : IsRight r → startup_bound r + start_costs r jobs carry restarts cycles before ≤ length cycles → t.phase ≡ 4
  pub stays : (u : CycleView) (older : List CycleView) → cycles ≡ u ∷ older → u.phase ≡ 4 → t.phase ≡ 4
  pub rises_anyway : IsRight r → slow_bound r + own_costs r jobs carry restarts cycles before ≤ length cycles → t.phase ≡ 4
  pub ends : startup_bound r + stop_cycles r + start_costs r jobs carry restarts cycles before ≤ length cycles →
      IsUpOrStopped r t cycles
  pub ends_anyway : slow_bound r + stop_cycles r + own_costs r jobs carry restarts cycles before ≤ length cycles →
      IsUpOrStopped r t cycles
  pub reports : (k i : ℕ) (x : Task) → k < length r.drives → slice_get (waiting_after r jobs carry restarts before k) i ≡ Some x →
      (i + 1) * request_cycles r k ≤ cycles_commanded 4 cycles → (number : ℕ) × (x.number ≡ Some number) × HaveTold (t ∷ cycles) number

-- THE RING BEARS SPARSE FAULTS. Take any point of a run at which phase 0 is commanded next, regardless of losses before it, if nothing is
-- undetected. From there on, and as long as the disturbed cycles are sparse, the ring doesn't fall, and each cycle is so.
abbrev pub BearsSparse : Type 0
BearsSparse = (r : RingView) (jobs : List Job) (carry : Carry) (restarts : Restarts) (t : CycleView) (cycles before : List CycleView) →
    IsOpened r jobs → IsRun r jobs carry restarts (t ∷ (cycles ++ before)) → IsClear (t ∷ (cycles ++ before)) →
    StartsEpoch r jobs carry restarts before → AreSparse r carry restarts (t ∷ cycles) before → Bears r jobs carry restarts t cycles before

-- An epoch begins after these cycles: there are none, or the record of the newest has a fall, a restart of the master included. If the
-- master restarts in it, the epoch begins in that very cycle; what is said here begins in the next one.
abbrev pub BeginsAnew : List CycleView → Type 0
BeginsAnew [] = Unit {0}
BeginsAnew (f ∷ before) = (x : Fall) × (f.events.fall ≡ Some x)

-- What holds of a cycle t after the cycles j: since the opening, or since one whose record has a fall, the ring bears the faults, if the
-- disturbed cycles since are sparse.
abbrev pub BearsIn : RingView → List Job → Carry → Restarts → CycleView → List CycleView → Type 0
BearsIn r jobs carry restarts t j = (cycles before : List CycleView) → j ≡ cycles ++ before → BeginsAnew before →
    AreSparse r carry restarts (t ∷ cycles) before → Bears r jobs carry restarts t cycles before

-- TOLERANCE. This holds in each cycle of a run, as long as nothing is undetected, regardless of losses and restarts.
abbrev pub Tolerates : Type 0
Tolerates = (r : RingView) (jobs : List Job) (carry : Carry) (restarts : Restarts) (t : CycleView) (j : List CycleView) → IsOpened r jobs →
    IsRun r jobs carry restarts (t ∷ j) → IsClear (t ∷ j) → BearsIn r jobs carry restarts t j
