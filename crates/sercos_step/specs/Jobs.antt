-- The jobs with which a master may be opened. The ring is represented by two functions.
use Rattle.std.specs.Prelude.{◌≡◌, ℕ, ◌≤◌, Bool, true, false, List, length}
use Rattle.std.specs.List.{All}
use Rattle.sercos_step.specs.declared.request.Request.{Request}
use Rattle.sercos_step.specs.declared.request.Request.TheVariants as request
use Rattle.sercos_step.specs.declared.request.Job.{Job}
use Rattle.sercos_step.specs.Steps.{IsRequest}

-- if the request sets a procedure command, its number isn't known to be that of other data
abbrev pub IsCommand : (ℕ → Bool) → Request → Type 0
IsCommand is_other (request.Read idn e) = Unit {0}
IsCommand is_other (request.Write idn e bytes) = Unit {0}
IsCommand is_other (request.Command idn) = is_other idn.raw ≡ false

-- A job in a ring. The ring has a drive with its address. Its request names an element that a
-- transfer can have. If it sets a procedure command, and the drive has a data block with this
-- number, then the operation data of the block is a procedure command. `is_other address raw` is
-- true iff the drive with the address has a data block with this number whose operation data is not
-- a procedure command.
pub record IsJob (has_drive : ℕ → Bool) (is_other : ℕ → ℕ → Bool) (job : Job) : Type 0 where
  pub drive : has_drive job.drive ≡ true
  pub request : IsRequest job.request
  pub command : IsCommand (is_other job.drive) job.request

-- at most 4096 of these jobs
pub record AreJobs (has_drive : ℕ → Bool) (is_other : ℕ → ℕ → Bool) (jobs : List Job) : Type 0 where
  pub all : All (IsJob has_drive is_other) jobs
  pub few : length jobs ≤ 4096
