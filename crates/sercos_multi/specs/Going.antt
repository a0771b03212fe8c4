-- Rings that go on from moment to moment.
use Rattle.std.specs.Prelude.{◌≡◌, ℕ, zero, suc, ◌+◌, ◌==◌, ◌<◌, ◌≤◌, ◌⊎◌, Bool, if◌then◌else◌, List, [], ◌∷◌, ◌++◌, length}
use Rattle.std.specs.List.{flat_map}
use Rattle.sercos_step.specs.declared.request.Job.{Job}
use Rattle.sercos_block.specs.Views.{RingView}
use Rattle.sercos_script.specs.Links.{Carry, Restarts}
use Rattle.sercos_trace.specs.Views.{CycleView}
use Rattle.sercos_law_run.specs.Journal.Runs.{next_record}
use Rattle.sercos_multi.specs.Merged.{Voice, span, lines_at, moment_line}

-- what holds of each, of one, and of each two at the same place
unfoldable pub Each : {X : Type 0} → (X → Type 0) → List X → Type 0
Each P [] = Unit {0}
Each P (x ∷ xs) = P x × Each P xs

unfoldable pub Some : {X : Type 0} → (X → Type 0) → List X → Type 0
Some P [] = ⊥
Some P (x ∷ xs) = P x ⊎ Some P xs

unfoldable pub AllAre : {X Y : Type 0} → (X → Y → Type 0) → List X → List Y → Type 0
AllAre R [] [] = Unit {0}
AllAre R (x ∷ xs) (y ∷ ys) = R x y × AllAre R xs ys
AllAre R _ _ = ⊥

-- a ring after its next cycle, and after its cycle that begins at a moment, if one does
unfoldable pub gone_on : ℕ → Voice → List CycleView → Voice
gone_on time v [] = record { number = v.number; wishes = v.wishes; totals = v.totals; at = v.at; later = [] }
gone_on time v (t ∷ later) = record {
  number = v.number;
  wishes = v.wishes;
  totals = v.totals;
  at = v.at + span time t.phase;
  later = later;
}

unfoldable pub passed : ℕ → ℕ → Voice → Voice
passed time moment v = if v.at == moment then gone_on time v v.later else v

-- the rings that have cycles left begin none before a moment
abbrev pub IsFrom : ℕ → Voice → Type 0
IsFrom moment v = 0 < length v.later → moment ≤ v.at

abbrev pub AreFrom : ℕ → List Voice → Type 0
AreFrom moment voices = Each (IsFrom moment) voices

-- a ring's next cycle begins at a moment
abbrev pub Begins : ℕ → Voice → Type 0
Begins moment v = (0 < length v.later) × (v.at ≡ moment)

-- the text of a moment at which a ring begins a cycle
unfoldable pub here_text : ℕ → List Voice → ℕ → List ℕ
here_text time voices moment = moment_line moment ++ flat_map (lines_at time moment) voices

unfoldable pub timed_count : Bool → ℕ
timed_count b = if b then 1 else 0

-- the next n cycles of a ring after those of a journal, in their order
unfoldable pub future : RingView → List Job → Carry → Restarts → List CycleView → ℕ → List CycleView
future r jobs carry restarts j zero = []
future r jobs carry restarts j (suc n) = next_record r jobs carry restarts j ∷
    future r jobs carry restarts (next_record r jobs carry restarts j ∷ j) n
