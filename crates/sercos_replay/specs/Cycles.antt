-- A capture as its cycles. Lists of lines and of cycles have their newest item first; the ATs of a cycle are in the order of their
-- lines.
use Rattle.std.specs.Prelude.{ℕ, ◌≤◌, List, [], ◌∷◌, ◌++◌, Option, Some, None}
use Rattle.sercos_telegram.specs.declared.layout.Kind.{Kind}
use Rattle.sercos_telegram.specs.declared.layout.Kind.TheVariants as telegram
use Rattle.sercos_trace.specs.Views.{SentView}
use Rattle.sercos_trace.specs.declared.reading.Line.{Line}
use Rattle.sercos_trace.specs.declared.reading.Line.TheVariants as line

-- the telegrams of a cycle
pub record Cycle : Type 0 where
  pub cycle : ℕ
  pub mst : SentView
  pub ats : List SentView
  pub mdt : Option SentView

-- an MST begins a cycle
abbrev pub begun : ℕ → SentView → Cycle
begun cycle sent = record { cycle = cycle; mst = sent; ats = []; mdt = None }

-- The cycle with a telegram more. After its MDT nothing counts.
abbrev pub at_after : Option SentView → SentView → Cycle → Cycle
at_after None sent t = record t { ats = t.ats ++ sent ∷ [] }
at_after (Some mdt) sent t = t

abbrev pub mdt_after : Option SentView → SentView → Cycle → Cycle
mdt_after None sent t = record t { mdt = Some sent }
mdt_after (Some mdt) sent t = t

-- the newest cycle with a telegram more; before the first MST nothing counts
abbrev pub with_at : SentView → List Cycle → List Cycle
with_at sent [] = []
with_at sent (t ∷ j) = at_after t.mdt sent t ∷ j

abbrev pub with_mdt : SentView → List Cycle → List Cycle
with_mdt sent [] = []
with_mdt sent (t ∷ j) = mdt_after t.mdt sent t ∷ j

abbrev pub with_telegram : Kind → ℕ → SentView → List Cycle → List Cycle
with_telegram telegram.Mst cycle sent j = begun cycle sent ∷ j
with_telegram telegram.At cycle sent j = with_at sent j
with_telegram telegram.Mdt cycle sent j = with_mdt sent j

-- the cycles of these lines
abbrev pub cycles_of : List Line → List Cycle
cycles_of [] = []
cycles_of (line.Telegram cycle sent ∷ before) = with_telegram sent.kind cycle sent (cycles_of before)
cycles_of (_ ∷ before) = cycles_of before

-- the number of the newest cycle; 0 before the first one
abbrev pub newest_cycle : List Cycle → ℕ
newest_cycle [] = 0
newest_cycle (t ∷ j) = t.cycle

-- the cycle of an MST is not below the newest one
abbrev pub goes_on : Kind → ℕ → List Cycle → Type 0
goes_on telegram.Mst cycle j = newest_cycle j ≤ cycle
goes_on _ cycle j = Unit {0}

abbrev pub GoesOn : List Line → Line → Type 0
GoesOn before (line.Telegram cycle sent) = goes_on sent.kind cycle (cycles_of before)
GoesOn before _ = Unit {0}
