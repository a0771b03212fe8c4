-- The results of the tasks of a channel in an epoch. Lists are newest first, except for the
-- outcomes.
use Rattle.std.specs.Prelude.{ℕ, ◌+◌, ◌==◌, Bool, false, if◌then◌else◌, List, [], ◌∷◌, ◌++◌, Option, Some, None, is_some, option_map}
use Rattle.sercos_step.specs.declared.request.Outcome.{Outcome}
use Rattle.sercos_step.specs.declared.request.Outcome.TheVariants as outcome
use Rattle.sercos_step.specs.Steps.{outcome_of}
use Rattle.sercos_service_master.specs.Begun.{Begun}
use Rattle.sercos_trace.specs.declared.events.Stop.{Stop}
use Rattle.sercos_seat.specs.Agenda.{asked_by, stop_of_task}
use Rattle.sercos_seat.specs.Ring.{Task}

-- a request that ended, with its number
pub record Report : Type 0 where
  pub number : ℕ
  pub outcome : Outcome

-- the outcomes of a channel in this epoch, the oldest first
abbrev pub with_outcome : Option Outcome → List Outcome → List Outcome
with_outcome None outcomes = outcomes
with_outcome (Some o) outcomes = outcomes ++ o ∷ []

abbrev pub outcomes_in : List Begun → List Outcome
outcomes_in [] = []
outcomes_in (b ∷ past) = with_outcome (outcome_of b.request b.answers) (outcomes_in past)

-- an index is this one
abbrev pub is_place : ℕ → Option ℕ → Bool
is_place k None = false
is_place k (Some i) = k == i

-- the number of the current request, if it is one
abbrev pub number_in : List Task → Option ℕ
number_in [] = None
number_in (t ∷ tasks) = t.number

abbrev pub numbered : Outcome → ℕ → Report
numbered o i = record { number = i; outcome = o }

abbrev pub report_of : Option Outcome → Option ℕ → Option Report
report_of None number = None
report_of (Some o) number = option_map (numbered o) number

-- the outcome of the task that was begun last, and the stop that it causes, if it is one of the
-- start-up
abbrev pub last_outcome : List Begun → Option Outcome
last_outcome [] = None
last_outcome (b ∷ past) = outcome_of b.request b.answers

abbrev pub trouble_by : ℕ → List Task → Option Outcome → Option Stop
trouble_by address (t ∷ tasks) (Some o) = stop_of_task address t.number (asked_by t.request) o
trouble_by address _ _ = None

abbrev pub of_phase : ℕ → Option Task → Option Task
of_phase phase None = None
of_phase phase (Some t) = if t.phase == phase then Some t else None

-- how many requests were begun: they no longer wait, whether they ended or are broken
abbrev pub count_requests : List Task → ℕ
count_requests [] = 0
count_requests (t ∷ tasks) = if is_some t.number then count_requests tasks + 1 else count_requests tasks

-- the current request of a channel, broken
abbrev pub broken_number : Option ℕ → Option Report
broken_number None = None
broken_number (Some i) = Some (record { number = i; outcome = outcome.Broken })
