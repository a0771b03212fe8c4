-- What the start-up wrote. Requests have their newest item first.
use Rattle.std.specs.Prelude.{◌≡◌, ℕ, ◌+◌, ◌≤◌, ◌<◌, true, Option, List, [], ◌∷◌, ◌++◌, length, Some, slice_get}
use Rattle.sercos_idn.specs.Elements.{data_element}
use Rattle.sercos_idn.specs.declared.idn.Idn.{Idn}
use Rattle.sercos_step.specs.declared.request.Request.TheVariants as request
use Rattle.sercos_step.specs.declared.request.Outcome.TheVariants as outcome
use Rattle.sercos_step.specs.Steps.{outcome_of}
use Rattle.sercos_timing.specs.Views.{PlanView}
use Rattle.sercos_block.specs.declared.block.Block.{Block}
use Rattle.sercos_service_master.specs.Begun.{Begun}
use Rattle.sercos_service_master.specs.Calls.{begun_by}
use Rattle.sercos_law_channel.specs.Handshake.Values.{GiveElsewhere}
use Rattle.sercos_seat.specs.Ring.{Known, Task, member}
use Rattle.sercos_seat.specs.Agenda.{is_checked, reads_count, writes}
use Rattle.sercos_seat.specs.Seats.{AreWaiting}
use Rattle.sercos_master.specs.Annals.{Call, outcomes, past}

-- the identifier numbers that the start-up writes, in its order
abbrev pub start_numbers : List ℕ
start_numbers = 1 ∷ 2 ∷ 6 ∷ 7 ∷ 8 ∷ 9 ∷ 10 ∷ 15 ∷ 16 ∷ 24 ∷ 89 ∷ []

-- Among these requests to a drive with such blocks the write is found and complete, and no newer one writes to its identifier
-- number.
pub record IsWrittenLast (blocks : List Block) (begun : List Begun) (idn : Idn) (bytes : List ℕ) : Type 0 where
  pub newer : List Begun
  pub one : Begun
  pub older : List Begun
  pub split : begun ≡ newer ++ one ∷ older
  pub asks : one.request ≡ request.Write idn data_element bytes
  pub whole : List ℕ
  pub complete : outcome_of one.request one.answers ≡ Some (outcome.Complete whole)
  pub away : GiveElsewhere idn.raw blocks newer

-- There is a plan, and so it is with each of its eleven writes to the drive.
pub record IsConfigured (s : Known) (k : ℕ) (blocks : List Block) (made : Option PlanView) (begun : List Begun) : Type 0 where
  pub plan : PlanView
  pub plan_is : made ≡ Some plan
  pub each : (i : ℕ) (idn : Idn) (bytes : List ℕ) → slice_get (writes s plan k) i ≡ Some (request.Write idn data_element bytes) →
      IsWrittenLast blocks begun idn bytes

-- each write of a plan writes operation data
abbrev pub WritesData : Type 0
WritesData = (s : Known) (plan : PlanView) (k i : ℕ) → i < 11 → (idn : Idn) × (bytes : List ℕ) ×
    (slice_get (writes s plan k) i ≡ Some (request.Write idn data_element bytes)) × (slice_get start_numbers i ≡ Some idn.raw)

-- THE WRITES. From where the check for phase 3 has been begun, and up to phase 3, each write of the plan is complete, and nothing
-- newer writes to its identifier number.
abbrev pub ConfiguresFromCheck : Type 0
ConfiguresFromCheck = (s : Known) (requests : ℕ → List Task) (h : List Call) (k : ℕ) (blocks : List Block) →
    ((j : ℕ) → AreWaiting (requests j)) → k < length s.drives → (past s requests h).now.phase ≤ 3 →
    reads_count (member s k) + 11 < length (begun_by ((past s requests h).calls k)) →
    IsConfigured s k blocks (past s requests h).plan (begun_by ((past s requests h).calls k))

-- So it is where the check for phase 3 has ended well, as it has in phase 3 and where the phase rises to 3.
abbrev pub ConfiguresAtRise : Type 0
ConfiguresAtRise = (s : Known) (requests : ℕ → List Task) (h : List Call) (k : ℕ) (blocks : List Block) →
    ((j : ℕ) → AreWaiting (requests j)) → k < length s.drives → (past s requests h).now.phase ≤ 3 →
    is_checked (member s k) (outcomes (past s requests h) k) ≡ true →
    IsConfigured s k blocks (past s requests h).plan (begun_by ((past s requests h).calls k))
