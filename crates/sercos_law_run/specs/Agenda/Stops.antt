-- Where a stop comes from. Requests and tasks have their newest item first, outcomes their oldest.
use Rattle.std.specs.Prelude.{◌≡◌, ◌⊎◌, ℕ, ◌+◌, ◌<◌, nat_le, true, false, List, ◌∷◌, length, take, Some, None, Err, slice_get}
use Rattle.sercos_idn.specs.declared.idn.Idn.{Idn}
use Rattle.sercos_idn.specs.declared.code.Code.{Code}
use Rattle.sercos_step.specs.declared.request.Request.{Request}
use Rattle.sercos_step.specs.declared.request.Request.TheVariants as request
use Rattle.sercos_step.specs.declared.request.Outcome.{Outcome}
use Rattle.sercos_step.specs.declared.request.Outcome.TheVariants as outcome
use Rattle.sercos_step.specs.Steps.{outcome_of}
use Rattle.sercos_timing.specs.Order.{record_bytes}
use Rattle.sercos_plan.specs.Views.{ChainView}
use Rattle.sercos_plan.specs.ChainOf.{planned}
use Rattle.sercos_service_master.specs.Begun.{Begun}
use Rattle.sercos_service_master.specs.Calls.{begun_by}
use Rattle.sercos_trace.specs.declared.events.Stop.{Stop}
use Rattle.sercos_trace.specs.declared.events.Stop.TheVariants as stop
use Rattle.sercos_seat.specs.Ring.{Known, Task, member}
use Rattle.sercos_seat.specs.Agenda.{asked_by, ended_well, idns_in, last_long_stop, len_said, long_in, reads_count, wishes_given}
use Rattle.sercos_master.specs.Annals.{Call, Past, all_read, outcomes, past}
use Rattle.sercos_law_run.specs.Agenda.Reported.{AreNumbered}

-- What was begun last on the channel to the drive with this address is this request of the start-up, and it ended so.
pub record HasEnded (s : Known) (p : Past) (address : ℕ) (r : Request) (o : Outcome) : Type 0 where
  pub place : ℕ
  pub there : place < length s.drives
  pub address_is : (member s place).address ≡ address
  pub one : Begun
  pub older : List Begun
  pub begun : begun_by (p.calls place) ≡ one ∷ older
  pub task : Task
  pub tasks : List Task
  pub tasks_are : p.tasks place ≡ task ∷ tasks
  pub startup : task.number ≡ None
  pub asks : one.request ≡ r
  pub ended : outcome_of one.request one.answers ≡ Some o

-- a request of the start-up that names this identifier number was refused with this code
pub record HasRefused (s : Known) (p : Past) (address : ℕ) (i : Idn) (code : Code) : Type 0 where
  pub asked : Request
  pub names : (asked_by asked).idn ≡ i
  pub ended : HasEnded s p address asked (outcome.Refused code)

-- the attribute was read, and it is not that of a number
pub record IsBadAttribute (s : Known) (p : Past) (address : ℕ) (i : Idn) (word : ℕ) : Type 0 where
  pub bytes : List ℕ
  pub word_is : word ≡ long_in bytes
  pub no_length : len_said word ≡ None
  pub ended : HasEnded s p address (request.Read i 3) (outcome.Complete bytes)

-- All attributes were read, and by them the data records are too long for an MDT. The stop names the last value of four bytes.
abbrev pub AreTooLong : Known → Past → Stop → Type 0
AreTooLong s p x = (all_read s p ≡ true) × (nat_le (record_bytes (wishes_given s (outcomes p)).drives) 2047 ≡ false) ×
    (last_long_stop s.drives 0 (outcomes p) ≡ Some x)

-- The check that is `after` requests after the reads is complete at the drive with this address, but hasn't ended well; and then
-- the drive returned this list.
pub record HasFailedCheck (s : Known) (p : Past) (after address : ℕ) (list : List Idn) : Type 0 where
  pub place : ℕ
  pub there : place < length s.drives
  pub address_is : (member s place).address ≡ address
  pub status : List ℕ
  pub complete : slice_get (outcomes p place) (reads_count (member s place) + after) ≡ Some (outcome.Complete status)
  pub badly : ended_well status ≡ false
  pub bytes : List ℕ
  pub listed : slice_get (outcomes p place) (reads_count (member s place) + (after + 1)) ≡ Some (outcome.Complete bytes)
  pub list_is : list ≡ take 64 (idns_in bytes)

-- THE STOPS. With `NoFit` all reads have ended, and no plan fits what they gave.
abbrev pub NoFitHasCause : Type 0
NoFitHasCause = (s : Known) (requests : ℕ → List Task) (h : List Call) (chain : ChainView) →
    (past s requests h).stop ≡ Some (stop.NoFit chain) →
    (all_read s (past s requests h) ≡ true) × (planned (wishes_given s (outcomes (past s requests h))) ≡ Err chain)

abbrev pub RefusedHasCause : Type 0
RefusedHasCause = (s : Known) (requests : ℕ → List Task) (h : List Call) (address : ℕ) (i : Idn) (code : Code) →
    (past s requests h).stop ≡ Some (stop.Refused address i code) →
    HasRefused s (past s requests h) address i code

abbrev pub BadConfigHasCause : Type 0
BadConfigHasCause = (s : Known) (requests : ℕ → List Task) (h : List Call) (address : ℕ) (i : Idn) (word : ℕ) →
    (past s requests h).stop ≡ Some (stop.BadConfig address i word) →
    IsBadAttribute s (past s requests h) address i word ⊎ AreTooLong s (past s requests h) (stop.BadConfig address i word)

-- The check for phase 3 is 11 requests after the reads, and that for phase 4 is 12 after them.
abbrev pub Check127HasCause : Type 0
Check127HasCause = (s : Known) (requests : ℕ → List Task) (h : List Call) (address : ℕ) (list : List Idn) →
    ((j : ℕ) → AreNumbered (requests j)) → (past s requests h).stop ≡ Some (stop.Check127 address (record { items = list })) →
    HasFailedCheck s (past s requests h) 11 address list

abbrev pub Check128HasCause : Type 0
Check128HasCause = (s : Known) (requests : ℕ → List Task) (h : List Call) (address : ℕ) (list : List Idn) →
    ((j : ℕ) → AreNumbered (requests j)) → (past s requests h).stop ≡ Some (stop.Check128 address (record { items = list })) →
    HasFailedCheck s (past s requests h) 12 address list
