-- What each drive of a ring keeps in a cycle, by what arrived at it, over every link.
use Rattle.std.specs.Prelude.{◌≡◌, ◌⊎◌, ◌↔◌, ℕ, ◌+◌, ◌<◌, ◌≤◌, List, [], ◌∷◌, length}
use Rattle.sercos_step.specs.declared.request.Job.{Job}
use Rattle.sercos_block.specs.Views.{DriveView, RingView}
use Rattle.sercos_command.specs.Checks.{unfit_for_phase_4}
use Rattle.sercos_drive.specs.Heard.{DriveCall}
use Rattle.sercos_drive.specs.Annals.{phase_at, store_at}
use Rattle.sercos_trace.specs.Views.{CycleView}
use Rattle.sercos_script.specs.Links.{Carry, Restarts}
use Rattle.sercos_law_run.specs.Journal.Runs.{drive_at, given_before, given_mst, given_mdt, with_restart}
use Rattle.sercos_law_run.specs.Held.Opened.{IsOpened}
use Rattle.sercos_law_run.specs.Stations.Fit.{KeepsTimes}
use Rattle.sercos_law_run.specs.Stations.Phases.{IsByMst, Rises, Drops}

-- What holds of a drive after a call: in phases 3 and 4 its store keeps the times, in phase 4 its limits too; its phase, if it isn't 0, is
-- that of an MST that it got; it rose by one phase, its check passed, if it rose; and it went to phase 0 for a cause, if it did.
pub record IsPlain (d : DriveView) (rate : ℕ) (call : DriveCall) (h : List DriveCall) : Type 0 where
  pub times : 3 ≤ phase_at d rate (call ∷ h) → KeepsTimes rate (store_at d rate (call ∷ h))
  pub limits : 4 ≤ phase_at d rate (call ∷ h) → unfit_for_phase_4 (store_at d rate (call ∷ h)) ≡ []
  pub stands : 1 ≤ phase_at d rate (call ∷ h) → IsByMst (call ∷ h) (phase_at d rate (call ∷ h))
  pub rises : (phase_at d rate (call ∷ h) ≡ phase_at d rate h) ⊎ ((phase_at d rate (call ∷ h) ≡ 0) ⊎ Rises d rate call h)
  pub drops : 1 ≤ phase_at d rate h → (phase_at d rate (call ∷ h) ≡ 0) ↔ Drops d rate call h

abbrev pub ArePlain : DriveView → ℕ → List DriveCall → Type 0
ArePlain d rate [] = Unit {0}
ArePlain d rate (call ∷ h) = IsPlain d rate call h

-- the calls of a drive before the MST's place of a cycle: a restart is one of them
abbrev pub given_start : Carry → Restarts → List CycleView → ℕ → List DriveCall
given_start carry restarts j k = with_restart (restarts (length j) (k + 1)) (given_before carry restarts j k)

-- So it is of each drive of a cycle: before the MST's place, also after a restart there; after the MST's place; and after the MDT's.
abbrev pub DrivesArePlain : RingView → Carry → Restarts → CycleView → List CycleView → Type 0
DrivesArePlain r carry restarts t j =
    (k : ℕ) → k < length r.drives → ArePlain (drive_at r k) r.rate (given_start carry restarts j k)
    × ArePlain (drive_at r k) r.rate (given_mst carry restarts t.sent j k) ×
    ArePlain (drive_at r k) r.rate (given_mdt carry restarts t.sent j k)

-- Whatever arrives, undetected damage too.
abbrev pub AlwaysPlain : Type 0
AlwaysPlain = (r : RingView) (jobs : List Job) (carry : Carry) (restarts : Restarts) (t : CycleView) (j : List CycleView)
    → IsOpened r jobs → DrivesArePlain r carry restarts t j
