-- The requests that were begun on a channel, and what the master sends for them. Each list has its
-- newest item first.
use Rattle.std.specs.Prelude.{ℕ, Bool, false, not, ◌&&◌, if◌then◌else◌, List, [], ◌∷◌, ◌++◌, Option, Some, None, is_some}
use mathlib.Core.Bool.{beq}
use Rattle.sercos_telegram.specs.declared.words.Control.{Control}
use Rattle.sercos_telegram.specs.declared.words.Status.{Status}
use Rattle.sercos_step.specs.declared.step.Step.{Step}
use Rattle.sercos_step.specs.declared.step.Answer.{Answer}
use Rattle.sercos_step.specs.declared.request.Request.{Request}
use Rattle.sercos_step.specs.declared.request.Outcome.{Outcome}
use Rattle.sercos_step.specs.Steps.{next_step, outcome_of}

-- a request that was begun, with the answers to its steps so far
pub record Begun : Type 0 where
  pub request : Request
  pub answers : List Answer

-- the step that is open after these answers: the first without an answer, unless they ended the
-- transfer
abbrev pub step_at : Request → List Answer → Option Step
step_at r answers = if is_some (outcome_of r answers) then None else next_step r answers

-- the steps with one more, if there is one
abbrev pub with_step : Option Step → List Step → List Step
with_step None steps = steps
with_step (Some s) steps = s ∷ steps

-- the steps of a request that were begun: the first at once, each other one with the answer to the
-- step before it
abbrev pub steps_begun : Request → List Answer → List Step
steps_begun r [] = with_step (step_at r []) []
steps_begun r (a ∷ answers) = with_step (step_at r (a ∷ answers)) (steps_begun r answers)

-- all steps that were begun since the reset
abbrev pub steps_in : List Begun → List Step
steps_in [] = []
steps_in (b ∷ past) = steps_begun b.request b.answers ++ steps_in past

-- all answers that were accepted since the reset
abbrev pub answers_in : List Begun → List Answer
answers_in [] = []
answers_in (b ∷ past) = b.answers ++ answers_in past

-- the step that is open; `None` without a request in progress
abbrev pub open_in : List Begun → Option Step
open_in [] = None
open_in (b ∷ past) = step_at b.request b.answers

-- whether a list has an odd number of items
abbrev pub is_odd : {A : Type 0} → List A → Bool
is_odd [] = false
is_odd (x ∷ xs) = not (is_odd xs)

-- MHS: 1 if the number of steps since the reset is odd
abbrev pub mhs_in : List Begun → Bool
mhs_in past = is_odd (steps_in past)

-- Whether a status answers the open step: its AHS is MHS, and it isn't busy.
abbrev pub answers_it : List Begun → Status → Bool
answers_it past status = is_some (open_in past) && (beq status.ahs (mhs_in past) && not status.busy)

-- the answer of a status and the information word after it
abbrev pub answer_in : Status → ℕ → Answer
answer_in status word = record { error = status.error; word = word }

-- the requests, with one more answer to the newest
abbrev pub with_answer : Answer → List Begun → List Begun
with_answer a [] = []
with_answer a (b ∷ past) = record b { answers = a ∷ b.answers } ∷ past

-- the outcome after one more answer, if that ends the transfer
abbrev pub outcome_with : Answer → List Begun → Option Outcome
outcome_with a [] = None
outcome_with a (b ∷ past) = outcome_of b.request (a ∷ b.answers)

-- What the master sends: MHS, and the open step, or a step of zeros.
pub record Said : Type 0 where
  pub mhs : Bool
  pub step : Step

-- the step of zeros
abbrev pub no_step : Step
no_step = record { write = false; last = false; element = 0; word = 0 }

-- the open step, or a step of zeros
abbrev pub step_or_none : Option Step → Step
step_or_none None = no_step
step_or_none (Some s) = s

-- what the master sends for these requests
abbrev pub master_says : List Begun → Said
master_says past = record { mhs = mhs_in past; step = step_or_none (open_in past) }

-- what a control word and the information word after it send
abbrev pub said_by : Control → ℕ → Said
said_by control word =
    record { mhs = control.mhs; step = record { write = control.write; last = control.last; element = control.element; word = word } }
