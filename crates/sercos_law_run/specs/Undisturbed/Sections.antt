-- How many cycles a start-up spends in phases 2 and 3. The newest cycle of a journal comes first.
use Rattle.std.specs.Prelude.{◌≡◌, ℕ, ◌<◌, ◌≤◌, true, false, List, [], ◌∷◌, ◌++◌, length, None, is_some}
use Rattle.sercos_step.specs.declared.request.Job.{Job}
use Rattle.sercos_block.specs.Views.{RingView}
use Rattle.sercos_trace.specs.Views.{CycleView}
use Rattle.sercos_seat.specs.Ring.{known_of, member}
use Rattle.sercos_seat.specs.Agenda.{is_ready}
use Rattle.sercos_master.specs.Annals.{Past, outcomes, all_read, all_checked}
use Rattle.sercos_script.specs.Links.{Carry, Restarts}
use Rattle.sercos_law_channel.specs.Pace.Stretches.{open_since}
use Rattle.sercos_law_run.specs.Journal.Arrivals.{sum_below}
use Rattle.sercos_law_run.specs.Journal.Runs.{IsRun, IsClear}
use Rattle.sercos_law_run.specs.Views.RingViews.{behind_mdt, views_of}
use Rattle.sercos_law_run.specs.Held.Opened.{IsOpened}
use Rattle.sercos_law_run.specs.Undisturbed.ViewsSince.{views_since}

-- The master goes on with phase 2: after the MDT's place there is no stop, there is a plan if all reads have ended, and the check for
-- phase 3 of some drive hasn't ended well.
pub record GoesOnInTwo (r : RingView) (p : Past) : Type 0 where
  pub phase : p.now.phase ≡ 2
  pub goes_on : p.stop ≡ None
  pub planned : all_read (known_of r) p ≡ true → is_some p.plan ≡ true
  pub unchecked : all_checked (known_of r) p ≡ false

-- .. and the same holds in each of these cycles, which are later than the others
abbrev pub AreInTwo : RingView → List Job → Carry → Restarts → List CycleView → List CycleView → Type 0
AreInTwo r jobs carry restarts [] before = Unit {0}
AreInTwo r jobs carry restarts (t ∷ cycles) before = AreInTwo r jobs carry restarts cycles before ×
    GoesOnInTwo r (behind_mdt r jobs carry restarts t.sent (cycles ++ before))

-- Then no cycle is idle: they are at most as many as the sum, over the drives, of those in which a step to the drive is open.
abbrev pub NoneIdleInTwo : Type 0
NoneIdleInTwo = (r : RingView) (jobs : List Job) (carry : Carry) (restarts : Restarts) (cycles before : List CycleView) → IsOpened r jobs →
    IsRun r jobs carry restarts (cycles ++ before) → IsClear (cycles ++ before) →
    AreInTwo r jobs carry restarts cycles before →
    length cycles ≤ sum_below (length r.drives) (λ k. open_since (views_since r jobs carry restarts k cycles before)
    (views_of r jobs carry restarts k before))

-- The master goes on with phase 3 and the drive at place k: there is no stop but a plan, and its check for phase 4 hasn't ended well.
pub record GoesOnInThree (r : RingView) (p : Past) (k : ℕ) : Type 0 where
  pub phase : p.now.phase ≡ 3
  pub goes_on : p.stop ≡ None
  pub planned : is_some p.plan ≡ true
  pub unready : is_ready (member (known_of r) k) (outcomes p k) ≡ false

abbrev pub AreInThree : RingView → List Job → Carry → Restarts → ℕ → List CycleView → List CycleView → Type 0
AreInThree r jobs carry restarts k [] before = Unit {0}
AreInThree r jobs carry restarts k (t ∷ cycles) before = AreInThree r jobs carry restarts k cycles before ×
    GoesOnInThree r (behind_mdt r jobs carry restarts t.sent (cycles ++ before)) k

-- Then a step to this drive is open in each of the cycles.
abbrev pub NoneIdleInThree : Type 0
NoneIdleInThree = (r : RingView) (jobs : List Job) (carry : Carry) (restarts : Restarts) (k : ℕ) (cycles before : List CycleView) →
    IsOpened r jobs → IsRun r jobs carry restarts (cycles ++ before) → IsClear (cycles ++ before) →
    k < length r.drives → AreInThree r jobs carry restarts k cycles before →
    length cycles ≤ open_since (views_since r jobs carry restarts k cycles before) (views_of r jobs carry restarts k before)
