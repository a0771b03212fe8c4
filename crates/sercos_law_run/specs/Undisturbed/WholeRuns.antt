-- What becomes of a run in which nothing is disturbed, from its opening on. The newest cycle of a journal comes first.
use Rattle.std.specs.Prelude.{◌≡◌, ◌⊎◌, ℕ, ◌+◌, ◌*◌, ◌<◌, ◌≤◌, true, false, List, [], ◌∷◌, length, map, Some, slice_get}
use Rattle.std.specs.List.{filter, list_any}
use Rattle.sercos_step.specs.declared.request.Job.{Job}
use Rattle.sercos_block.specs.Startup.{startup_bound}
use Rattle.sercos_block.specs.Stores.{with_own}
use Rattle.sercos_block.specs.Views.{RingView}
use Rattle.sercos_block.specs.declared.block.Block.{Block}
use Rattle.sercos_law_run.specs.Bounds.Bounds.{stop_cycles}
use Rattle.sercos_command.specs.Checks.{is_outside}
use Rattle.sercos_service_master.specs.Begun.{answers_it}
use Rattle.sercos_trace.specs.Views.{CycleView}
use Rattle.sercos_trace.specs.declared.events.Stop.{Stop}
use Rattle.sercos_trace.specs.declared.events.Stop.TheVariants as stop
use Rattle.sercos_seat.specs.Ring.{Task, known_of, tasks_for}
use Rattle.sercos_telegram.specs.declared.layout.Kind.{Kind}
use Rattle.sercos_script.specs.Links.{Carry, IsQuiet, Restarts}
use Rattle.sercos_law_channel.specs.Handshake.Epochs.{epoch_begun}
use Rattle.sercos_law_channel.specs.Handshake.Views.{Heard}
use Rattle.sercos_law_channel.specs.Pace.Ages.{age_in}
use Rattle.sercos_law_run.specs.Journal.Runs.{drive_at, IsClear, IsRun}
use Rattle.sercos_law_run.specs.Views.RingViews.{view_of, views_of}
use Rattle.sercos_law_run.specs.Held.Opened.{IsOpened}
use Rattle.sercos_law_run.specs.Undisturbed.Fit.{IsFit}
use Rattle.sercos_law_run.specs.Undisturbed.Reports.{HaveTold, request_cycles}
use Rattle.sercos_law_run.specs.Undisturbed.StartUps.{TellsNoFall}
use Rattle.sercos_law_run.specs.Undisturbed.StopsInTwo.{StopsForTheCycleTime, StopsForThePlan}
use Rattle.sercos_law_run.specs.Undisturbed.StopsLater.{IsRight}
use Rattle.sercos_law_run.specs.Undisturbed.Undisturbed.{IsUndisturbed}

-- none of these cycles is disturbed
abbrev pub NeverDisturbed : RingView → Carry → Restarts → List CycleView → Type 0
NeverDisturbed r carry restarts [] = Unit {0}
NeverDisturbed r carry restarts (t ∷ j) = NeverDisturbed r carry restarts j × IsUndisturbed r carry restarts t j

-- So it is over links that change nothing, if no station restarts.
abbrev pub QuietIsUndisturbed : Type 0
QuietIsUndisturbed = (r : RingView) (carry : Carry) (restarts : Restarts) (j : List CycleView) →
    ((cycle : ℕ) (kind : Kind) (from : ℕ) → IsQuiet carry cycle kind from) → ((cycle station : ℕ) → restarts cycle station ≡ false) →
    NeverDisturbed r carry restarts j

-- the record of one of these cycles has the stop
abbrev pub HasTold : Stop → List CycleView → Type 0
HasTold x [] = ⊥
HasTold x (t ∷ j) = (t.events.stop ≡ Some x) ⊎ HasTold x j

-- A plan fits, and the cycle time lies within each drive's limits; but an own block of this drive was outside its limits at opening. The
-- stop names the drive, and the numbers of all such blocks of it, ascending.
pub record StopsForBlocks (r : RingView) (x : Stop) : Type 0 where
  pub place : ℕ
  pub there : place < length r.drives
  pub is : x ≡ stop.Check128 (drive_at r place).address
      (record { items = map (λ (b : Block). b.idn) (filter is_outside (with_own [] (drive_at r place).blocks)) })
  pub outside : list_any is_outside (drive_at r place).blocks ≡ true
  pub fits : IsFit r

-- The three causes of a stop. One excludes the next: no plan fits; or one does, and a drive refuses the cycle time; or neither holds, and a
-- check finds blocks outside their limits.
abbrev pub StopsForCause : RingView → Stop → Type 0
StopsForCause r x = StopsForThePlan r x ⊎ (StopsForTheCycleTime r x ⊎ StopsForBlocks r x)

-- What holds of the newest cycle. Nothing was undetected, no fall is reported, and no broken request. From the bound of a start-up on,
-- phase 4 is commanded if the ring is right; it is commanded only if it is; and once commanded, it stays. Phase 3 is commanded only if a
-- plan fits, and the cycle time lies within each drive's limits. From 41 steps of the slowest drive after that bound on, phase 4 is
-- commanded, or the master has reported a stop for its cause; and after a stop no other is reported. No step is open for longer than the
-- busy time of its drive and one cycle, and its answer arrives exactly that long after the cycle in which it was begun, and first sent. If
-- phase 4 is commanded, the request to a drive at place i, counted from 0, has been reported: at the latest i + 1 times the cycles of one
-- request after the bound of a start-up.
pub record StartsUp (r : RingView) (jobs : List Job) (carry : Carry) (restarts : Restarts) (t : CycleView)
    (j : List CycleView) : Type 0 where
  pub clear : IsClear (t ∷ j)
  pub tells : TellsNoFall t
  pub rises : startup_bound r ≤ length j → IsRight r → t.phase ≡ 4
  pub right : t.phase ≡ 4 → IsRight r
  pub fit : 3 ≤ t.phase → IsFit r
  pub stays : (u : CycleView) (before : List CycleView) → j ≡ u ∷ before → u.phase ≡ 4 → t.phase ≡ 4
  pub ends : startup_bound r + stop_cycles r ≤ length j → ((t.phase ≡ 4) × IsRight r) ⊎
      ((x : Stop) × HasTold x (t ∷ j) × StopsForCause r x)
  pub once : (x y : Stop) → HasTold x j → t.events.stop ≡ Some y → ⊥
  pub ages : (k : ℕ) → k < length r.drives → age_in (views_of r jobs carry restarts k (t ∷ j)) ≤ (drive_at r k).busy + 1
  pub answers : (k : ℕ) (a : Heard) → k < length r.drives → (view_of r jobs carry restarts k t j).heard ≡ Some a →
      answers_it (epoch_begun (views_of r jobs carry restarts k j)) a.status ≡ true →
      age_in (views_of r jobs carry restarts k j) ≡ (drive_at r k).busy + 1
  pub reports : t.phase ≡ 4 → (k i : ℕ) (x : Task) → k < length r.drives → slice_get (tasks_for (known_of r) jobs k) i ≡ Some x →
      startup_bound r + (i + 1) * request_cycles r k ≤ length j →
      (number : ℕ) × (x.number ≡ Some number) × HaveTold (t ∷ j) number

-- So it is in each cycle of a run in which nothing was disturbed.
abbrev pub StartsUndisturbed : Type 0
StartsUndisturbed = (r : RingView) (jobs : List Job) (carry : Carry) (restarts : Restarts) (t : CycleView) (j : List CycleView) →
    IsOpened r jobs → IsRun r jobs carry restarts (t ∷ j) → NeverDisturbed r carry restarts (t ∷ j) →
    StartsUp r jobs carry restarts t j
