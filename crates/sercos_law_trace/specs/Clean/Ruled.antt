-- The telegrams of a run as a checker of captures sees them, and that they keep its rules. Journals and lists of telegrams have their
-- newest item first.
use Rattle.std.specs.Prelude.{◌≡◌, ℕ, ◌≤◌, length, List, [], ◌∷◌, None}
use Rattle.sercos_step.specs.declared.request.Job.{Job}
use Rattle.sercos_timing.specs.Views.{WishesView}
use Rattle.sercos_block.specs.Rings.{wishes_of}
use Rattle.sercos_block.specs.Views.{RingView}
use Rattle.sercos_trace.specs.Views.{SentView, CycleView}
use Rattle.sercos_check.specs.Seen.{Told}
use Rattle.sercos_check.specs.Rules.{broken_rule}
use Rattle.sercos_script.specs.Links.{Carry, Restarts}
use Rattle.sercos_law_run.specs.Journal.Runs.{IsRun, IsClear}
use Rattle.sercos_law_run.specs.Held.Opened.{IsOpened}
use Rattle.sercos_replay.specs.Traced.{FitLines}

-- the telegrams of a cycle after these
abbrev pub told_after : ℕ → List SentView → List Told → List Told
told_after cycle [] before = before
told_after cycle (s ∷ sent) before = told_after cycle sent ((record { cycle = cycle; sent = s }) ∷ before)

abbrev pub told_in : List CycleView → List Told
told_in [] = []
told_in (t ∷ j) = told_after t.cycle t.sent (told_in j)

-- each keeps the nine rules after those before it
abbrev pub KeepRules : WishesView → List Told → Type 0
KeepRules w [] = Unit {0}
KeepRules w (t ∷ before) = KeepRules w before × (broken_rule w before t ≡ None)

-- The telegrams of every run without undetected damage keep them too, regardless of losses and restarts.
abbrev pub RunsKeepRules : Type 0
RunsKeepRules = (r : RingView) (jobs : List Job) (carry : Carry) (restarts : Restarts) (j : List CycleView) → IsOpened r jobs →
    IsRun r jobs carry restarts j → IsClear j → KeepRules (wishes_of r) (told_in j)

-- The numbers of the telegrams of every run fit the fields of the lines of a trace, whatever arrives, if the cycles are no more than a
-- field can count.
abbrev pub RunsFitLines : Type 0
RunsFitLines = (r : RingView) (jobs : List Job) (carry : Carry) (restarts : Restarts) (j : List CycleView) → IsOpened r jobs →
    IsRun r jobs carry restarts j → length j ≤ 4294967296 → FitLines j
