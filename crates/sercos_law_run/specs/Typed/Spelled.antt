-- The telegrams of a typed ring are whole, and the words in them fit.
use Rattle.std.specs.Prelude.{◌≡◌, true, List}
use Rattle.sercos_step.specs.declared.request.Job.{Job}
use Rattle.sercos_block.specs.Rings.{is_ring}
use Rattle.sercos_block.specs.Views.{RingView}
use Rattle.sercos_script.specs.Links.{Carry, Restarts}
use Rattle.sercos_trace.specs.Views.{CycleView}
use Rattle.sercos_law_run.specs.Journal.Runs.{IsNext}
use Rattle.sercos_law_run.specs.Views.Spelled.{IsSpelled}
use Rattle.sercos_step.specs.Steps.{AreTypedJobs}
use Rattle.sercos_law_run.specs.Typed.Typed.{AreTyped}

-- In each next cycle of a typed ring with typed jobs the frames of MST, ATs and MDT return their contents. The words that drives
-- show have sixteen bits, and so have those that the master sends; its elements have three.
abbrev pub SpelledNext : Type 0
SpelledNext = (r : RingView) (jobs : List Job) (carry : Carry) (restarts : Restarts) (t : CycleView) (j : List CycleView) →
    is_ring r ≡ true → AreTyped r → AreTypedJobs jobs → IsNext r jobs carry restarts t j →
    IsSpelled r jobs carry restarts t j
