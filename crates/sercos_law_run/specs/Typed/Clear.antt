-- Over a harmless link no arrival is unseen.
use Rattle.std.specs.Prelude.{◌≡◌, true, List}
use Rattle.sercos_step.specs.declared.request.Job.{Job}
use Rattle.sercos_block.specs.Rings.{is_ring}
use Rattle.sercos_block.specs.Views.{RingView}
use Rattle.sercos_script.specs.Links.{Carry, Restarts}
use Rattle.sercos_trace.specs.Views.{CycleView}
use Rattle.sercos_law_run.specs.Journal.Harmless.{IsHarmless}
use Rattle.sercos_law_run.specs.Journal.Runs.{IsClear, IsRun}
use Rattle.sercos_step.specs.Steps.{AreTypedJobs}
use Rattle.sercos_law_run.specs.Typed.Typed.{AreTyped}

-- Every run of a typed ring with typed jobs is clear if its link is harmless, whichever stations restart.
abbrev pub HarmlessIsClear : Type 0
HarmlessIsClear = (r : RingView) (jobs : List Job) (carry : Carry) (restarts : Restarts) (j : List CycleView) → is_ring r ≡ true →
    AreTyped r → AreTypedJobs jobs → IsHarmless carry → IsRun r jobs carry restarts j → IsClear j
