-- What disturbed cycles cost a channel. Each list has its newest item first.
use Rattle.std.specs.Prelude.{◌≡◌, ℕ, ◌+◌, ◌*◌, ◌<◌, ◌≤◌, ◌==◌, nat_le, Bool, false, not, ◌&&◌, ◌||◌, if◌then◌else◌, List, [], ◌∷◌, ◌++◌, length, is_some}
use Rattle.sercos_step.specs.declared.request.Job.{Job}
use Rattle.sercos_block.specs.Stores.{store_of}
use Rattle.sercos_block.specs.Views.{RingView}
use Rattle.sercos_service_master.specs.Begun.{answers_in, open_in}
use Rattle.sercos_trace.specs.Views.{CycleView}
use Rattle.sercos_script.specs.Links.{Carry, Restarts}
use Rattle.sercos_law_channel.specs.Handshake.Epochs.{begun_in, epoch_begun, epoch_log, unless_restart}
use Rattle.sercos_law_channel.specs.Handshake.Runs.{IsRun as IsViewRun}
use Rattle.sercos_law_channel.specs.Handshake.Views.{View, processed_in}
use Rattle.sercos_law_channel.specs.Pace.Costs.{AreListed, cost_in, cost_of}
use Rattle.sercos_law_channel.specs.Pace.Stretches.{open_since}
use Rattle.sercos_law_channel.specs.Pace.Times.{one_more}
use Rattle.sercos_law_run.specs.Journal.Arrivals.{sum_below}
use Rattle.sercos_law_run.specs.Journal.Runs.{drive_at, is_disturbed_in, IsClear, IsRun}
use Rattle.sercos_law_run.specs.Views.RingViews.{views_of}
use Rattle.sercos_law_run.specs.Held.Opened.{IsOpened}
use Rattle.sercos_law_run.specs.Undisturbed.EpochStarts.{StartsEpoch}
use Rattle.sercos_law_run.specs.Undisturbed.ViewsSince.{views_since}
use Rattle.sercos_law_run.specs.Tolerance.Sparse.{AreSparse}

-- In a cycle something of the channel is lost: a step is open at its start, and the drive isn't heard; or one is open at its end, and the
-- drive doesn't process the record.
abbrev pub loses_step : View → List View → Bool
loses_step v past =
    (is_some (open_in (unless_restart v (epoch_begun past))) && not (is_some v.heard))
    || (is_some (open_in (begun_in v past)) && not (is_some (processed_in v past)))

-- in how many cycles of a stretch this is so
abbrev pub lost_since : List View → List View → ℕ
lost_since [] past = 0
lost_since (v ∷ cycles) past = one_more (loses_step v (cycles ++ past)) (lost_since cycles past)

-- The master neither falls nor restarts in a stretch.
abbrev pub GoesOn : List View → Type 0
GoesOn [] = Unit {0}
GoesOn (v ∷ cycles) = GoesOn cycles × (v.falls ≡ false) × (v.master_restarts ≡ false)

-- Then the cycles of the stretch in which a step was open are at most busy time and one for each step that was accepted and had no answer
-- before the stretch, and those in which something was lost.
abbrev pub TakesTimeAndLosses : ℕ → Type 0
TakesTimeAndLosses busy = (cycles past : List View) → IsViewRun busy (cycles ++ past) → GoesOn cycles →
    open_since cycles past + (busy + 1) * length (answers_in (epoch_begun past))
    ≤ (busy + 1) * length (epoch_log (cycles ++ past)) + lost_since cycles past

-- What a disturbed cycle costs a channel: nothing in phases 0 and 1, two cycles in 2, one in 3 and 4.
abbrev pub cycles_for : ℕ → ℕ
cycles_for phase = if nat_le phase 1 then 0 else (if phase == 2 then 2 else 1)

abbrev pub disturbances : RingView → Carry → Restarts → List CycleView → List CycleView → ℕ
disturbances r carry restarts [] before = 0
disturbances r carry restarts (t ∷ cycles) before =
    disturbances r carry restarts cycles before
    + (if is_disturbed_in r carry restarts (length (cycles ++ before)) t.sent then cycles_for t.phase else 0)

-- WHAT SPARSE FAULTS COST. The cycles of an epoch in which a step to a drive is open are at most the cost of the requests to it that were
-- begun, if `longest` bounds each of its lists in them, and what the disturbed cycles cost.
abbrev pub CostsSparse : Type 0
CostsSparse = (r : RingView) (jobs : List Job) (carry : Carry) (restarts : Restarts) (cycles before : List CycleView) → IsOpened r jobs →
    IsRun r jobs carry restarts (cycles ++ before) → IsClear (cycles ++ before) → StartsEpoch r jobs carry restarts before →
    AreSparse r carry restarts cycles before → (k : ℕ) (longest : ℕ → ℕ) → k < length r.drives →
    AreListed longest (views_of r jobs carry restarts k (cycles ++ before)) →
    open_since (views_since r jobs carry restarts k cycles before) (views_of r jobs carry restarts k before)
    ≤ cost_in (cost_of (drive_at r k).busy (drive_at r k).command longest (store_of (drive_at r k)))
    (epoch_begun (views_of r jobs carry restarts k (cycles ++ before))) + disturbances r carry restarts cycles before

-- UP TO PHASE 2, in which one channel is at work after the other, a disturbed cycle counts once for all drives: the sum of the cycles with
-- an open step is at most the sum of the costs, and what the disturbed cycles cost.
abbrev pub CostsShared : Type 0
CostsShared = (r : RingView) (jobs : List Job) (carry : Carry) (restarts : Restarts) (t : CycleView) (cycles before : List CycleView) →
    IsOpened r jobs → IsRun r jobs carry restarts (t ∷ (cycles ++ before)) → IsClear (t ∷ (cycles ++ before)) →
    StartsEpoch r jobs carry restarts before → AreSparse r carry restarts (t ∷ cycles) before → t.phase ≤ 2 → (longest : ℕ → ℕ) →
    ((k : ℕ) → k < length r.drives → AreListed longest (views_of r jobs carry restarts k (t ∷ (cycles ++ before)))) →
    sum_below (length r.drives) (λ k. open_since (views_since r jobs carry restarts k (t ∷ cycles) before)
    (views_of r jobs carry restarts k before))
    ≤ sum_below (length r.drives) (λ k. cost_in (cost_of (drive_at r k).busy (drive_at r k).command longest (store_of (drive_at r k)))
    (epoch_begun (views_of r jobs carry restarts k (t ∷ (cycles ++ before))))) + disturbances r carry restarts (t ∷ cycles) before
