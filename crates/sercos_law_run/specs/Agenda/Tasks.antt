-- The tasks of a channel in an epoch, and which of the agenda each of them is. Tasks and requests have their newest item first,
-- outcomes their oldest.
use Rattle.std.specs.Prelude.{◌≡◌, ℕ, ◌+◌, ◌<◌, ◌≤◌, true, false, List, [], ◌∷◌, ◌++◌, length, Option, Some, None, slice_get, ◌⊎◌}
use Rattle.sercos_idn.specs.Elements.{data_element}
use Rattle.sercos_step.specs.declared.request.Request.{Request}
use Rattle.sercos_step.specs.declared.request.Request.TheVariants as request
use Rattle.sercos_step.specs.declared.request.Outcome.{Outcome}
use Rattle.sercos_step.specs.declared.request.Outcome.TheVariants as outcome
use Rattle.sercos_step.specs.Steps.{outcome_of}
use Rattle.sercos_timing.specs.Views.{PlanView}
use Rattle.sercos_service_master.specs.Begun.{Begun}
use Rattle.sercos_service_master.specs.Calls.{begun_by}
use Rattle.sercos_seat.specs.Ring.{Known, Task, member, startup}
use Rattle.sercos_seat.specs.Agenda.{idn, reads, reads_count, writes, is_checked, is_ready}
use Rattle.sercos_seat.specs.Channel.{last_outcome, outcomes_in, trouble_by}
use Rattle.sercos_seat.specs.Seats.{AreWaiting}
use Rattle.sercos_master.specs.Annals.{Call, Past, outcomes, past}

-- The task after these outcomes: a read; with a plan one of its eleven writes, or the check for phase 3; after that the list of
-- what it found, or the check for phase 4; and after that its list, or a request of those that wait.
pub data IsTask (s : Known) (k : ℕ) (plan : Option PlanView) (waiting : List Task) (outcomes : List Outcome) (t : Task) : Type 0 where
  OfReads : (r : Request) → length outcomes < reads_count (member s k) → slice_get (reads (member s k)) (length outcomes) ≡ Some r →
      t ≡ startup 2 r → IsTask s k plan waiting outcomes t
  OfWrites : (p : PlanView) → (i : ℕ) → (r : Request) → plan ≡ Some p → i < 11 → length outcomes ≡ reads_count (member s k) + i →
      slice_get (writes s p k) i ≡ Some r → t ≡ startup 2 r → IsTask s k plan waiting outcomes t
  Checks3 : (p : PlanView) → plan ≡ Some p → length outcomes ≡ reads_count (member s k) + 11 → t ≡ startup 2 (request.Command (idn 127)) →
      IsTask s k plan waiting outcomes t
  Lists3 : length outcomes ≡ reads_count (member s k) + 12 → is_checked (member s k) outcomes ≡ false →
      t ≡ startup 2 (request.Read (idn 21) data_element) → IsTask s k plan waiting outcomes t
  Checks4 : length outcomes ≡ reads_count (member s k) + 12 → is_checked (member s k) outcomes ≡ true →
      t ≡ startup 3 (request.Command (idn 128)) → IsTask s k plan waiting outcomes t
  Lists4 : length outcomes ≡ reads_count (member s k) + 13 → is_ready (member s k) outcomes ≡ false →
      t ≡ startup 3 (request.Read (idn 22) data_element) → IsTask s k plan waiting outcomes t
  OfWaiting : (j : ℕ) → length outcomes ≡ reads_count (member s k) + (13 + j) → is_ready (member s k) outcomes ≡ true →
      slice_get waiting j ≡ Some t → IsTask s k plan waiting outcomes t

-- if the newest of these is of the start-up, it is complete
abbrev pub HasEndedWell : List Begun → List Task → Type 0
HasEndedWell (b ∷ older) (t ∷ tasks) = t.number ≡ None → (bytes : List ℕ) × (outcome_of b.request b.answers ≡ Some (outcome.Complete bytes))
HasEndedWell _ _ = Unit {0}

-- A task that was begun was the next one after the outcomes of those begun before it. These had all ended, those of the start-up
-- without error, and the last one brought no stop. It was begun before there was a plan, or by the plan; and not before its phase.
pub record IsBegunTask (s : Known) (k : ℕ) (plan : Option PlanView) (waiting : List Task) (phase : ℕ) (b : Begun) (t : Task)
    (older : List Begun) (tasks : List Task) : Type 0 where
  pub asks : b.request ≡ t.request
  pub by_then : Option PlanView
  pub same : (by_then ≡ None) ⊎ (by_then ≡ plan)
  pub task : IsTask s k by_then waiting (outcomes_in older) t
  pub ended : length (outcomes_in older) ≡ length older
  pub well : HasEndedWell older tasks
  pub quiet : trouble_by (member s k).address tasks (last_outcome older) ≡ None
  pub early : t.phase ≤ phase

abbrev pub AreBegunTasks : Known → ℕ → Option PlanView → List Task → ℕ → List Begun → List Task → Type 0
AreBegunTasks s k plan waiting phase [] [] = Unit {0}
AreBegunTasks s k plan waiting phase (b ∷ older) (t ∷ tasks) = AreBegunTasks s k plan waiting phase older tasks ×
    IsBegunTask s k plan waiting phase b t older tasks
AreBegunTasks s k plan waiting phase _ _ = ⊥

-- THE AGENDA. What was begun on the channel at place k in this epoch are its tasks, each at its place of the agenda.
abbrev pub HasBegunTasks : Known → Past → ℕ → Type 0
HasBegunTasks s p k = AreBegunTasks s k p.plan (p.waiting k) p.now.phase (begun_by (p.calls k)) (p.tasks k)

abbrev pub BeginsTasks : Type 0
BeginsTasks = (s : Known) (requests : ℕ → List Task) (h : List Call) (k : ℕ) → k < length s.drives → HasBegunTasks s (past s requests h) k

-- The request that the j-th outcome belongs to: j requests were begun before it, and it was begun as the agenda has it.
pub record HasEndedAt (s : Known) (k : ℕ) (plan : Option PlanView) (waiting : List Task) (phase : ℕ) (begun : List Begun) (j : ℕ)
    (o : Outcome) : Type 0 where
  pub newer : List Begun
  pub one : Begun
  pub older : List Begun
  pub task : Task
  pub tasks : List Task
  pub split : begun ≡ newer ++ one ∷ older
  pub place : length older ≡ j
  pub ended : outcome_of one.request one.answers ≡ Some o
  pub is : IsBegunTask s k plan waiting phase one task older tasks

-- Each outcome belongs to a task.
abbrev pub EndsTasks : Type 0
EndsTasks = (s : Known) (requests : ℕ → List Task) (h : List Call) (k j : ℕ) (o : Outcome) → k < length s.drives →
    slice_get (outcomes (past s requests h) k) j ≡ Some o →
    HasEndedAt s k (past s requests h).plan ((past s requests h).waiting k) (past s requests h).now.phase
    (begun_by ((past s requests h).calls k)) j o

-- Nothing is begun in phases 0 and 1, if the requests that wait are of phase 4.
abbrev pub BeginsNoneEarly : Type 0
BeginsNoneEarly = (s : Known) (requests : ℕ → List Task) (h : List Call) (k : ℕ) → ((j : ℕ) → AreWaiting (requests j)) →
    k < length s.drives → (past s requests h).now.phase ≤ 1 →
    begun_by ((past s requests h).calls k) ≡ []
