-- What is reported of the requests of a run. Journals have their newest cycle first.
use Rattle.std.specs.Prelude.{ℕ, List, reverse}
use Rattle.std.specs.List.{flat_map}
use Rattle.sercos_step.specs.declared.request.Outcome.{Outcome}
use Rattle.sercos_trace.specs.Views.{CycleView}

-- the outcomes that the master reports in the cycles of a journal, in their order, each with the number of its request
abbrev pub told_in : List CycleView → List (ℕ × Outcome)
told_in j = flat_map (λ (t : CycleView). t.events.outcomes) (reverse j)
