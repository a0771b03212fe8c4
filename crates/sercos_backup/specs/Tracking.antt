-- Requests, each with the outcome that was reported of it.
use Rattle.std.specs.Prelude.{ℕ, suc, ◌==◌, Bool, true, false, ◌&&◌, List, [], ◌∷◌, map, Option, Some, None, option_map}
use Rattle.std.specs.List.{find, list_all}
use Rattle.std.specs.Option.{option_or}
use Rattle.sercos_idn.specs.declared.idn.Idn.{Idn}
use Rattle.sercos_step.specs.declared.request.Request.{Request}
use Rattle.sercos_step.specs.declared.request.Request.TheVariants as request
use Rattle.sercos_step.specs.declared.request.Job.{Job}
use Rattle.sercos_step.specs.declared.request.Outcome.{Outcome}
use Rattle.sercos_step.specs.declared.request.Outcome.TheVariants as outcome
use Rattle.sercos_backup.specs.declared.tracked.Tracked.{Tracked}

abbrev pub idn_in : Request → Idn
idn_in (request.Read idn e) = idn
idn_in (request.Write idn e bytes) = idn
idn_in (request.Command idn) = idn

-- The outcome that was reported of the request with a number, if there is one. Outcomes are reported with the number of their
-- request, in order.
abbrev pub told_of : List (ℕ × Outcome) → ℕ → Option Outcome
told_of told number = option_map (λ (o : ℕ × Outcome). o.1) (find (λ (o : ℕ × Outcome). o.0 == number) told)

-- a request with its outcome
abbrev pub with_outcome : Option Outcome → Job → Tracked
with_outcome told job = record { drive = job.drive; idn = idn_in job.request; outcome = told }

-- requests, numbered from a number on, each with its reported outcome
unfoldable pub tracked_from : ℕ → List (ℕ × Outcome) → List Job → List Tracked
tracked_from number told [] = []
tracked_from number told (job ∷ jobs) = with_outcome (told_of told number) job ∷ tracked_from (suc number) told jobs

-- the requests of a ring, numbered from 1 on, each with its reported outcome
abbrev pub tracked : List (ℕ × Outcome) → List Job → List Tracked
tracked told jobs = tracked_from 1 told jobs

-- an outcome is noted, if there was none before
abbrev pub noted : Outcome → Tracked → Tracked
noted o t = record t { outcome = option_or t.outcome (Some o) }

-- Whether a request ended well: it was complete, or, if `absent` allows it, the drive has no such block.
abbrev pub is_well : Bool → Option Outcome → Bool
is_well absent (Some (outcome.Complete bytes)) = true
is_well absent (Some (outcome.Refused code)) = absent && (code.raw == 0x1001)
is_well absent (Some outcome.Broken) = false
is_well absent None = false

abbrev pub are_well : Bool → List Tracked → Bool
are_well absent list = list_all (λ t. is_well absent t.outcome) list

-- the bytes that a request gave; none if it wasn't complete
abbrev pub bytes_told : Option Outcome → List ℕ
bytes_told (Some (outcome.Complete bytes)) = bytes
bytes_told _ = []

-- the lists that the drives gave, each with the address of its drive
abbrev pub list_told : Tracked → ℕ × List ℕ
list_told t = (t.drive, bytes_told t.outcome)

abbrev pub lists_told : List Tracked → List (ℕ × List ℕ)
lists_told list = map list_told list
