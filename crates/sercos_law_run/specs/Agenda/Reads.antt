-- What the reads of the start-up gave.
use Rattle.std.specs.Prelude.{◌≡◌, ℕ, ◌<◌, List, length, Some, slice_get}
use Rattle.sercos_step.specs.declared.request.Outcome.TheVariants as outcome
use Rattle.sercos_timing.specs.Views.{PlanView}
use Rattle.sercos_seat.specs.Ring.{Known, Task, member}
use Rattle.sercos_seat.specs.Agenda.{reads_count}
use Rattle.sercos_master.specs.Annals.{Call, Past, outcomes, past}

-- If there is a plan, all reads of each drive are complete.
abbrev pub AreReadWell : Known → Past → Type 0
AreReadWell s p = (plan : PlanView) → p.plan ≡ Some plan → (k : ℕ) → k < length s.drives → (j : ℕ) → j < reads_count (member s k) →
    (bytes : List ℕ) × (slice_get (outcomes p k) j ≡ Some (outcome.Complete bytes))

abbrev pub ReadsWell : Type 0
ReadsWell = (s : Known) (requests : ℕ → List Task) (h : List Call) → AreReadWell s (past s requests h)
