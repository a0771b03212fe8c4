-- The capture of a run in which nothing is disturbed. Journals have their newest cycle first.
use Rattle.std.specs.Prelude.{◌≡◌, ℕ, false, List, [], ◌∷◌, length}
use Rattle.sercos_block.specs.Views.{RingView}
use Rattle.sercos_trace.specs.Views.{SentView, CycleView}
use Rattle.sercos_trace.specs.declared.reading.Line.{Line}
use Rattle.sercos_trace.specs.declared.reading.Line.TheVariants as line
use Rattle.sercos_script.specs.Links.{Carry, Restarts}
use Rattle.sercos_law_run.specs.Journal.Runs.{is_disturbed_in}

-- the lines of a cycle's telegrams after these
abbrev pub lines_with : ℕ → List SentView → List Line → List Line
lines_with cycle [] lines = lines
lines_with cycle (s ∷ sent) lines = lines_with cycle sent (line.Telegram cycle s ∷ lines)

abbrev pub lines_of : List CycleView → List Line
lines_of [] = []
lines_of (t ∷ j) = lines_with t.cycle t.sent (lines_of j)

-- in each cycle every arrival is what was sent, and no station restarts
abbrev pub NeverDisturbed : RingView → Carry → Restarts → List CycleView → Type 0
NeverDisturbed r carry restarts [] = Unit {0}
NeverDisturbed r carry restarts (t ∷ j) = NeverDisturbed r carry restarts j × (is_disturbed_in r carry restarts (length j) t.sent ≡ false)

-- lines of the same telegrams, with any other lines between them
unfoldable pub telegrams : List Line → List Line
telegrams [] = []
telegrams (line.Telegram cycle sent ∷ before) = line.Telegram cycle sent ∷ telegrams before
telegrams (_ ∷ before) = telegrams before
