-- The state of a master and its past, in each of its phases.
use Rattle.std.specs.Prelude.{◌≡◌, ◌≤◌, ◌+◌, ℕ, List, ◌∷◌, length}
use Rattle.sercos_step.specs.declared.request.Job.{Job}
use Rattle.sercos_master.specs.declared.master.AnyMaster.{AnyMaster}
use Rattle.sercos_master.specs.declared.master.AnyMaster.TheVariants.{P0, P1, P2, P3, P4}
use Rattle.sercos_seat.specs.Ring.{Known, tasks_for}
use Rattle.sercos_trace.specs.Views.{EventsView}
use Rattle.sercos_master.specs.Annals.{Past, Call, End, past, goes_on}
use Rattle.sercos_master.specs.Reports.{AreOpen, closing_told, events_told}
use Rattle.sercos_master.specs.Kept.{CoreStandsFor, CoreView, IsIn}

abbrev pub StandsAt : AnyMaster → Known → Past → Type 0
StandsAt (P0 m) s p = IsIn 0 m s p
StandsAt (P1 m) s p = IsIn 1 m s p
StandsAt (P2 m) s p = IsIn 2 m s p
StandsAt (P3 m) s p = IsIn 3 m s p
StandsAt (P4 m) s p = IsIn 4 m s p

-- the state of a master after its opening with these arguments and after these calls, the newest
-- first
abbrev pub AnyStandsFor : AnyMaster → Known → List Job → List Call → Type 0
AnyStandsFor m s jobs h = StandsAt m s (past s (tasks_for s jobs) h)

-- how a cycle of this phase is closed; the next one is of the phase that is kept
abbrev pub Closes : CoreView → ℕ → EventsView → CoreView → EventsView → Type 0
Closes v phase e next told = (s : Known) (p : Past) → CoreStandsFor (record v { phase = phase }) s p →
    CoreStandsFor next s (goes_on v.phase p) × (length e.outcomes + length s.drives ≤ 128 → told ≡ closing_told s p e)

-- how a cycle ends: the state of the master then, and what it adds to the events
abbrev pub Ends : AnyMaster → EventsView → AnyMaster → EventsView → Type 0
Ends m e next told = (s : Known) (jobs : List Job) (h : List Call) → AnyStandsFor m s jobs h →
    AnyStandsFor next s jobs (End ∷ h) × (AreOpen e.outcomes h → told ≡ events_told s (past s (tasks_for s jobs) h) e)
