-- What holds in each cycle of a run up to the first undetected damage. The newest cycle of a journal comes first.
use Rattle.std.specs.Prelude.{ℕ, ◌<◌, List, ◌∷◌, length}
use Rattle.sercos_step.specs.declared.request.Job.{Job}
use Rattle.sercos_block.specs.Views.{RingView}
use Rattle.sercos_trace.specs.Views.{CycleView}
use Rattle.sercos_script.specs.Links.{Carry, Restarts}
use Rattle.sercos_law_run.specs.Journal.Runs.{IsRun, IsClear}
use Rattle.sercos_law_run.specs.Held.Opened.{IsOpened}
use Rattle.sercos_law_run.specs.Headline.Cycles.{AreApartIn, AreOnPlanIn, HaveRealBits, StandsNoLater}
use Rattle.sercos_law_run.specs.Headline.Records.{AreOnce}
use Rattle.sercos_law_run.specs.Headline.Stops.{StopsRight}
use Rattle.sercos_law_run.specs.Headline.Transfers.{IsExactAt, IsToldAt, AreReportedIn, AreInStepAt}

-- In a cycle commanded phase 3 or 4 all telegrams lie apart and keep every drive's declared times, and what each drive in phase 3 or 4
-- holds agrees with the MDT; all of that is the one plan that is made of the ring's requirements. In each cycle a telegram has as many
-- bits as its frame. No drive is in a higher phase than the later one
-- commanded in this cycle or the one before. All transfers are exact, and reported once and in order: the numbers of the requests that end
-- in the cycle ascend in its record, and none of them ended in an earlier cycle. In a cycle commanded 2 to 4, both ends of the service
-- channel of each drive that is in phase 2 to 4 at its end are in step. The master stops with `NoFit` only if no plan fits the ring's
-- requirements, and never with `BadConfig` or `Check127`.
pub record KeepsAll (r : RingView) (jobs : List Job) (carry : Carry) (restarts : Restarts) (t : CycleView)
    (j : List CycleView) : Type 0 where
  pub apart : AreApartIn r carry restarts t j
  pub on_plan : AreOnPlanIn r carry restarts t j
  pub real : HaveRealBits t.sent
  pub no_later : (k : ℕ) → k < length r.drives → StandsNoLater r carry restarts t j k
  pub exact : (k : ℕ) → k < length r.drives → IsExactAt r jobs carry restarts t j k
  pub told : (k : ℕ) → k < length r.drives → IsToldAt r jobs carry restarts (t ∷ j) k
  pub once : AreOnce t j
  pub reported : AreReportedIn r jobs carry restarts t j
  pub stops : StopsRight r t.events.stop
  pub in_step : (k : ℕ) → k < length r.drives → AreInStepAt r jobs carry restarts t j k

-- This holds in the newest cycle of every run without undetected damage so far, regardless of losses and restarts.
abbrev pub Headline : Type 0
Headline = (r : RingView) (jobs : List Job) (carry : Carry) (restarts : Restarts) (t : CycleView) (j : List CycleView) → IsOpened r jobs →
    IsRun r jobs carry restarts (t ∷ j) → IsClear (t ∷ j) →
    KeepsAll r jobs carry restarts t j
