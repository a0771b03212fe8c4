-- When each request of a run has ended, and how.
use Rattle.std.specs.Prelude.{◌≡◌, ℕ, ◌+◌, ◌*◌, ◌<◌, ◌==◌, Bool, false, if◌then◌else◌, List, [], length, Option, Some, None, slice_get}
use Rattle.std.specs.List.{All, filter, flat_map}
use Rattle.sercos_idn.specs.declared.code.Code.{Code}
use Rattle.sercos_step.specs.declared.request.Job.{Job}
use Rattle.sercos_step.specs.declared.request.Outcome.{Outcome}
use Rattle.sercos_step.specs.declared.request.Outcome.TheVariants as outcome
use Rattle.sercos_block.specs.Startup.{startup_bound}
use Rattle.sercos_block.specs.Views.{RingView}
use Rattle.sercos_script.specs.Links.{Carry, Restarts}
use Rattle.sercos_law_run.specs.Journal.Runs.{drive_at, run_of}
use Rattle.sercos_law_run.specs.Undisturbed.Reports.{request_cycles}
use Rattle.sercos_law_run.specs.Undisturbed.StopsLater.{IsRight}
use Rattle.sercos_law_run.specs.Undisturbed.WholeRuns.{NeverDisturbed}
use Rattle.sercos_backup.specs.declared.tracked.Tracked.{Tracked}
use Rattle.sercos_backup.specs.Tracking.{are_well, is_well}
use Rattle.sercos_backup.specs.Texts.{failed_lines, refused_text, restored_line, restored_text}
use Rattle.sercos_app.specs.Saving.{run_tracked}

-- A request was answered: it was complete, or its drive refused it. It is neither open nor broken.
abbrev pub IsAnswered : Option Outcome → Type 0
IsAnswered (Some (outcome.Complete bytes)) = Unit {0}
IsAnswered (Some (outcome.Refused code)) = Unit {0}
IsAnswered (Some outcome.Broken) = ⊥
IsAnswered None = ⊥

-- how many of these requests are to the drive with this address
abbrev pub requests_to : ℕ → List Job → ℕ
requests_to address jobs = length (filter (λ (job : Job). job.drive == address) jobs)

-- The run of a ring is long enough for these requests: for each drive it has more cycles than the bound of a start-up, and the cycles of
-- one request for each request to the drive.
abbrev pub IsLongEnough : RingView → List Job → Type 0
IsLongEnough r jobs = (k : ℕ) → k < length r.drives →
    startup_bound r + requests_to (drive_at r k).address jobs * request_cycles r k < r.cycles

-- the code of a refused request
abbrev pub code_told : Option Outcome → ℕ
code_told (Some (outcome.Refused code)) = code.raw
code_told _ = 0

-- The lines of requests of which one that failed was refused: in a backup none of a request that ended well, and in a restore what the
-- drive has after a complete one.
abbrev pub refusal_of : Tracked → List ℕ
refusal_of t = refused_text t.drive t.idn.raw (code_told t.outcome)

abbrev pub refused_line : Bool → Tracked → List ℕ
refused_line absent t = if is_well absent t.outcome then [] else refusal_of t

abbrev pub answered_line : (ℕ → ℕ → List ℕ) → Tracked → List ℕ
answered_line found t = if is_well false t.outcome then restored_text t.drive t.idn.raw (found t.drive t.idn.raw) else refusal_of t

-- a drive refused one of these requests, which didn't end well
abbrev pub HasRefusal : Bool → List Tracked → Type 0
HasRefusal absent list = (n : ℕ) × (t : Tracked) × (code : Code) × (slice_get list n ≡ Some t) × (t.outcome ≡ Some (outcome.Refused code)) ×
    (is_well absent t.outcome ≡ false)

-- Each of these requests was answered. So if not all ended well, a drive refused one; and each line of a request that failed is that of a
-- refusal, in a backup and in a restore.
pub record AreAnswered (list : List Tracked) : Type 0 where
  pub each : All (λ (t : Tracked). IsAnswered t.outcome) list
  pub refused : (absent : Bool) → are_well absent list ≡ false → HasRefusal absent list
  pub failed : (absent : Bool) → failed_lines absent list ≡ flat_map (refused_line absent) list
  pub restored : (found : ℕ → ℕ → List ℕ) → flat_map (restored_line found) list ≡ flat_map (answered_line found) list

-- ENDS WELL. If the ring is right, the run is long enough for its requests, and nothing is disturbed in it, each request was complete, or
-- its drive refused it.
abbrev pub EndsWell : RingView → List Job → Carry → Restarts → Type 0
EndsWell r jobs carry restarts = IsRight r → IsLongEnough r jobs → NeverDisturbed r carry restarts (run_of r jobs carry restarts r.cycles) →
    AreAnswered (run_tracked r jobs carry restarts)
