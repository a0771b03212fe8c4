-- What the records of a run say of its requests, also after undetected damage. The newest cycle of a journal comes first.
use Rattle.std.specs.Prelude.{◌≡◌, true, List, ◌∷◌}
use Rattle.sercos_step.specs.declared.request.Job.{Job}
use Rattle.sercos_block.specs.Rings.{is_ring}
use Rattle.sercos_block.specs.Views.{RingView}
use Rattle.sercos_trace.specs.Views.{CycleView}
use Rattle.sercos_script.specs.Links.{Carry, Restarts}
use Rattle.sercos_law_run.specs.Journal.Runs.{IsRun}
use Rattle.sercos_law_run.specs.Headline.Records.{AreOnce}

-- In every run of a valid ring, whatever arrives, a request ends once by the records, and the numbers ascend in each.
abbrev pub OnceAlways : Type 0
OnceAlways = (r : RingView) (jobs : List Job) (carry : Carry) (restarts : Restarts) (t : CycleView) (j : List CycleView) →
    is_ring r ≡ true → IsRun r jobs carry restarts (t ∷ j) → AreOnce t j
