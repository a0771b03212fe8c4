-- Which cycles of a run are undisturbed. The newest cycle of a journal comes first.
use Rattle.std.specs.Prelude.{◌≡◌, false, List, [], ◌∷◌, ◌++◌, length}
use Rattle.sercos_step.specs.declared.request.Job.{Job}
use Rattle.sercos_block.specs.Views.{RingView}
use Rattle.sercos_trace.specs.Views.{CycleView}
use Rattle.sercos_script.specs.Links.{Carry, Restarts}
use Rattle.sercos_law_run.specs.Journal.Runs.{is_disturbed_in, IsRun, IsClear}

-- In a cycle every arrival is what was sent, and no station restarts.
abbrev pub IsUndisturbed : RingView → Carry → Restarts → CycleView → List CycleView → Type 0
IsUndisturbed r carry restarts t j = is_disturbed_in r carry restarts (length j) t.sent ≡ false

-- .. and the same holds in each of these cycles, which are later than the others
abbrev pub AreUndisturbed : RingView → Carry → Restarts → List CycleView → List CycleView → Type 0
AreUndisturbed r carry restarts [] before = Unit {0}
AreUndisturbed r carry restarts (t ∷ cycles) before = AreUndisturbed r carry restarts cycles before ×
    IsUndisturbed r carry restarts t (cycles ++ before)

-- Where nothing is disturbed, nothing is unseen.
abbrev pub StaysClear : Type 0
StaysClear = (r : RingView) (jobs : List Job) (carry : Carry) (restarts : Restarts) (cycles before : List CycleView) →
    IsRun r jobs carry restarts (cycles ++ before) → IsClear before → AreUndisturbed r carry restarts cycles before →
    IsClear (cycles ++ before)
