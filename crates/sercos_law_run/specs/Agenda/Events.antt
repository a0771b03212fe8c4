-- What the events of a cycle have of the requests to each drive.
use Rattle.std.specs.Prelude.{◌≡◌, ◌⊎◌, ℕ, ◌<◌, List, [], ◌∷◌, length, is_some}
use Rattle.sercos_step.specs.declared.request.Outcome.{Outcome}
use Rattle.sercos_trace.specs.Views.{EventsView}
use Rattle.sercos_seat.specs.Ring.{Known}
use Rattle.sercos_seat.specs.Channel.{Report}
use Rattle.sercos_master.specs.Annals.{Past, fall_of}
use Rattle.sercos_master.specs.Reports.{broken, events_told, restart_told}
use Rattle.sercos_law_run.specs.Agenda.Reported.{told_at_end, with_told}

-- a request of this number ended so, by what the events have
abbrev pub HasOutcome : List (ℕ × Outcome) → ℕ → Outcome → Type 0
HasOutcome [] number o = ⊥
HasOutcome (x ∷ outcomes) number o = ((x.0 ≡ number) × (x.1 ≡ o)) ⊎ HasOutcome outcomes number o

-- and the same by the reports of one drive
abbrev pub HasReport : List Report → ℕ → Outcome → Type 0
HasReport [] number o = ⊥
HasReport (r ∷ reports) number o = ((r.number ≡ number) × (r.outcome ≡ o)) ⊎ HasReport reports number o

-- each follows from the other
abbrev pub AreEquivalent : Type 0 → Type 0 → Type 0
AreEquivalent a b = (a → b) × (b → a)

-- THE EVENTS. At the end of a cycle just what is reported of the requests to each drive joins the events; and so at a restart.
abbrev pub AreTold : Type 0
AreTold = (s : Known) (p : Past) (e : EventsView) (number : ℕ) (o : Outcome) →
    AreEquivalent (HasOutcome (events_told s p e).outcomes number o)
    (HasOutcome e.outcomes number o ⊎
    ((k : ℕ) × (k < length s.drives) × HasReport (told_at_end (is_some (fall_of s p)) (p.now.report k) (broken p k) []) number o))

abbrev pub AreToldAtRestart : Type 0
AreToldAtRestart = (s : Known) (p : Past) (e : EventsView) (number : ℕ) (o : Outcome) →
    AreEquivalent (HasOutcome (restart_told s p e).outcomes number o) (HasOutcome e.outcomes number o ⊎
    ((k : ℕ) × (k < length s.drives) × HasReport (with_told (broken p k) []) number o))
