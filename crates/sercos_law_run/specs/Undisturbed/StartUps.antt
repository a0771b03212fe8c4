-- An epoch of the ring in which nothing is disturbed. The newest cycle of a journal comes first.
use Rattle.std.specs.Prelude.{◌≡◌, ℕ, ◌+◌, ◌<◌, ◌≤◌, true, List, [], ◌∷◌, ◌++◌, length, Some, None}
use Rattle.sercos_step.specs.declared.request.Job.{Job}
use Rattle.sercos_step.specs.declared.request.Outcome.TheVariants as outcome
use Rattle.sercos_block.specs.Stores.{store_of}
use Rattle.sercos_block.specs.Views.{RingView}
use Rattle.sercos_trace.specs.Views.{CycleView}
use Rattle.sercos_seat.specs.Ring.{known_of}
use Rattle.sercos_master.specs.Annals.{fall_of}
use Rattle.sercos_script.specs.Links.{Carry, Restarts}
use Rattle.sercos_service_master.specs.Begun.{answers_it}
use Rattle.sercos_law_channel.specs.Handshake.Views.{Heard}
use Rattle.sercos_law_channel.specs.Handshake.Epochs.{epoch_begun}
use Rattle.sercos_law_channel.specs.Pace.Passages.{AreWhole, AreUp, AreHeard}
use Rattle.sercos_law_channel.specs.Pace.Stretches.{open_since}
use Rattle.sercos_law_channel.specs.Pace.Ages.{age_in}
use Rattle.sercos_law_channel.specs.Pace.Costs.{AreListed, cost_of, cost_in}
use Rattle.sercos_law_run.specs.Journal.Runs.{drive_at, IsRun, IsClear}
use Rattle.sercos_law_run.specs.Agenda.Events.{HasOutcome}
use Rattle.sercos_law_run.specs.Views.RingViews.{behind_mdt, view_of, views_of}
use Rattle.sercos_law_run.specs.Held.Opened.{IsOpened}
use Rattle.sercos_law_run.specs.Undisturbed.Undisturbed.{AreUndisturbed}
use Rattle.sercos_law_run.specs.Undisturbed.EpochStarts.{StartsEpoch, came_back}
use Rattle.sercos_law_run.specs.Undisturbed.ViewsSince.{views_since}

-- at the end of none of these cycles, which are later than the others, does the ring fall
abbrev pub NoneFalls : RingView → List Job → Carry → Restarts → List CycleView → List CycleView → Type 0
NoneFalls r jobs carry restarts [] before = Unit {0}
NoneFalls r jobs carry restarts (t ∷ cycles) before = NoneFalls r jobs carry restarts cycles before ×
    (fall_of (known_of r) (behind_mdt r jobs carry restarts t.sent (cycles ++ before)) ≡ None)

-- The ring stays up: it falls at the end of none of these cycles; each of them is whole for each drive; in each of them each drive is in
-- the commanded phase, after the MST's place and at the end; and in each commanded phase 3 or 4 the master hears each drive.
pub record StaysUp (r : RingView) (jobs : List Job) (carry : Carry) (restarts : Restarts) (cycles before : List CycleView) : Type 0 where
  pub stays : NoneFalls r jobs carry restarts cycles before
  pub whole : (k : ℕ) → k < length r.drives →
      AreWhole (views_since r jobs carry restarts k cycles before) (views_of r jobs carry restarts k before)
  pub stands : (k : ℕ) → k < length r.drives →
      AreUp (views_since r jobs carry restarts k cycles before) (views_of r jobs carry restarts k before)
  pub heard : (k : ℕ) → k < length r.drives →
      AreHeard (views_since r jobs carry restarts k cycles before) (views_of r jobs carry restarts k before)

-- This holds from phase 0 of an epoch on as long as nothing is disturbed, regardless of losses before, if nothing was undetected.
abbrev pub StaysUpUndisturbed : Type 0
StaysUpUndisturbed = (r : RingView) (jobs : List Job) (carry : Carry) (restarts : Restarts) (cycles before : List CycleView) →
    IsOpened r jobs → IsRun r jobs carry restarts (cycles ++ before) → IsClear (cycles ++ before) →
    StartsEpoch r jobs carry restarts before → AreUndisturbed r carry restarts cycles before → StaysUp r jobs carry restarts cycles before

-- In such an epoch phase 0 is commanded until ten MSTs in a row came back, then phase 1 in one cycle more than there are drives, and then
-- phase 2. From the opening or a fall on these are ten cycles of phase 0; if MSTs of the epoch came back before, at most nine in a row, as
-- many fewer.
abbrev pub ComesToPhaseTwo : Type 0
ComesToPhaseTwo = (r : RingView) (jobs : List Job) (carry : Carry) (restarts : Restarts) (t : CycleView) (cycles before : List CycleView) →
    IsOpened r jobs → IsRun r jobs carry restarts (t ∷ (cycles ++ before)) →
    IsClear (t ∷ (cycles ++ before)) → StartsEpoch r jobs carry restarts before → AreUndisturbed r carry restarts (t ∷ cycles) before →
    (came_back r jobs carry restarts before ≤ 9) × (length cycles + came_back r jobs carry restarts before ≤ 9 → t.phase ≡ 0)
    × ((m : ℕ) → m ≤ length r.drives → length cycles + came_back r jobs carry restarts before ≡ 10 + m → t.phase ≡ 1) ×
    (length cycles + came_back r jobs carry restarts before ≡ 11 + length r.drives → t.phase ≡ 2)

-- The record of a cycle has no fall, and reports no request as broken.
pub record TellsNoFall (t : CycleView) : Type 0 where
  pub fall : t.events.fall ≡ None
  pub unbroken : (number : ℕ) → HasOutcome t.events.outcomes number outcome.Broken → ⊥

-- So it is in such an epoch.
abbrev pub TellsNoFallUndisturbed : Type 0
TellsNoFallUndisturbed = (r : RingView) (jobs : List Job) (carry : Carry) (restarts : Restarts) (t : CycleView)
    (cycles before : List CycleView) → IsOpened r jobs → IsRun r jobs carry restarts (t ∷ (cycles ++ before)) →
    IsClear (t ∷ (cycles ++ before)) → StartsEpoch r jobs carry restarts before → AreUndisturbed r carry restarts (t ∷ cycles) before →
    TellsNoFall t

-- In such an epoch no step is open for longer than the busy time of its drive and one cycle ..
abbrev pub AgesUndisturbed : Type 0
AgesUndisturbed = (r : RingView) (jobs : List Job) (carry : Carry) (restarts : Restarts) (cycles before : List CycleView) →
    IsOpened r jobs → IsRun r jobs carry restarts (cycles ++ before) → IsClear (cycles ++ before) →
    StartsEpoch r jobs carry restarts before → AreUndisturbed r carry restarts cycles before → (k : ℕ) → k < length r.drives →
    age_in (views_of r jobs carry restarts k (cycles ++ before)) ≤ (drive_at r k).busy + 1

-- .. and an answer arrives exactly then: busy time and one cycle after the cycle in which its step was begun, and first sent.
abbrev pub AnswersUndisturbed : Type 0
AnswersUndisturbed = (r : RingView) (jobs : List Job) (carry : Carry) (restarts : Restarts) (t : CycleView)
    (cycles before : List CycleView) → IsOpened r jobs → IsRun r jobs carry restarts (t ∷ (cycles ++ before)) →
    IsClear (t ∷ (cycles ++ before)) → StartsEpoch r jobs carry restarts before → AreUndisturbed r carry restarts (t ∷ cycles) before →
    (k : ℕ) (a : Heard) → k < length r.drives →
    (view_of r jobs carry restarts k t (cycles ++ before)).heard ≡ Some a →
    answers_it (epoch_begun (views_of r jobs carry restarts k (cycles ++ before))) a.status ≡ true →
    age_in (views_of r jobs carry restarts k (cycles ++ before)) ≡ (drive_at r k).busy + 1

-- The cycles of such an epoch in which a step to a drive is open are at most the cost of the requests to it that were begun, if `longest`
-- bounds each of its lists in them.
abbrev pub CostsUndisturbed : Type 0
CostsUndisturbed = (r : RingView) (jobs : List Job) (carry : Carry) (restarts : Restarts) (cycles before : List CycleView) →
    IsOpened r jobs → IsRun r jobs carry restarts (cycles ++ before) → IsClear (cycles ++ before) →
    StartsEpoch r jobs carry restarts before → AreUndisturbed r carry restarts cycles before → (k : ℕ) (longest : ℕ → ℕ) →
    k < length r.drives → AreListed longest (views_of r jobs carry restarts k (cycles ++ before)) →
    open_since (views_since r jobs carry restarts k cycles before) (views_of r jobs carry restarts k before)
    ≤ cost_in (cost_of (drive_at r k).busy (drive_at r k).command longest (store_of (drive_at r k)))
    (epoch_begun (views_of r jobs carry restarts k (cycles ++ before)))
