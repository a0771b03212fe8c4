-- What the records of a run say of its requests. The newest cycle of a journal comes first.
use Rattle.std.specs.Prelude.{◌⊎◌, ℕ, ◌+◌, ◌≤◌, List, [], ◌∷◌}
use Rattle.sercos_step.specs.declared.request.Outcome.{Outcome}
use Rattle.sercos_trace.specs.Views.{CycleView}
use Rattle.sercos_law_run.specs.Agenda.Events.{HasOutcome}

-- the numbers of these outcomes are at least this one, and ascend
abbrev pub NumbersAscend : ℕ → List (ℕ × Outcome) → Type 0
NumbersAscend i [] = Unit {0}
NumbersAscend i (x ∷ outcomes) = (i ≤ x.0) × NumbersAscend (x.0 + 1) outcomes

-- the request of this number ended in a cycle; in one of these cycles
abbrev pub EndedIn : ℕ → CycleView → Type 0
EndedIn number t = (o : Outcome) × HasOutcome t.events.outcomes number o

abbrev pub HasEnded : ℕ → List CycleView → Type 0
HasEnded number [] = ⊥
HasEnded number (t ∷ j) = EndedIn number t ⊎ HasEnded number j

-- ONCE, BY THE RECORDS. The numbers of the requests that end in a cycle ascend in its record, each is there once, and none of them
-- ended in an earlier cycle.
pub record AreOnce (t : CycleView) (j : List CycleView) : Type 0 where
  pub ascend : NumbersAscend 1 t.events.outcomes
  pub new : (number : ℕ) → EndedIn number t → HasEnded number j → ⊥
