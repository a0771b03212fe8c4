-- Transfers worked out from the definitions.
use Rattle.std.proofs.Common.{◌≡◌, ℕ, zero, suc, [], ◌∷◌, true, false, refl, arith}
use Rattle.std.specs.Prelude.{Some, None}
use Rattle.sercos_idn.specs.declared.idn.Idn.{Idn}
use Rattle.sercos_idn.specs.Codes.{attribute_fault}
use Rattle.sercos_idn.specs.Attributes.{attribute_of}
use Rattle.sercos_step.specs.declared.step.Answer.{Answer}
use Rattle.sercos_step.specs.declared.request.Request.TheVariants as request
use Rattle.sercos_step.specs.declared.request.Outcome.TheVariants as outcome
use Rattle.sercos_step.specs.Steps.{a_step, steps_of, outcome_of, next_step}
use Rattle.sercos_step.specs.Counts.{count_of, EndsInTime}

abbrev good : ℕ → Answer
good word = record { error = false; word = word }

abbrev idn : Idn
idn = record { raw = 51 }

-- a value of four bytes: 65530
value : outcome_of (request.Read idn 7) (good 0 ∷ good 65530 ∷ good 34 ∷ good 1 ∷ good 0 ∷ []) ≡ Some (outcome.Complete (250 ∷ 255 ∷ 0 ∷ 0 ∷ []))
unfolding attribute_fault attribute_of
value = refl

before_value : outcome_of (request.Read idn 7) (good 65530 ∷ good 34 ∷ good 1 ∷ good 0 ∷ []) ≡ None
unfolding attribute_fault attribute_of
before_value = refl

value_next : next_step (request.Read idn 7) (good 65530 ∷ good 34 ∷ good 1 ∷ good 0 ∷ []) ≡ Some (a_step false true 7 0)
unfolding attribute_fault attribute_of
value_next = refl

-- a name of three bytes
name : outcome_of (request.Read idn 2) (good 67 ∷ good 16961 ∷ good 60 ∷ good 3 ∷ good 0 ∷ []) ≡ Some (outcome.Complete (65 ∷ 66 ∷ 67 ∷ []))
name = refl

-- a list of one byte is written
list : steps_of (request.Write idn 7 (9 ∷ [])) (0 ∷ 1 ∷ 20 ∷ [])
    ≡ a_step true true 1 51 ∷ a_step false false 3 0 ∷ a_step false true 3 0 ∷ a_step true false 7 1 ∷ a_step true false 7 0 ∷ a_step true true 7 9 ∷ []
unfolding attribute_fault attribute_of
list = refl

-- a command that runs for a while and ends well
command : outcome_of (request.Command idn) (good 0 ∷ good 3 ∷ good 7 ∷ good 7 ∷ good 0 ∷ good 0 ∷ []) ≡ Some (outcome.Complete (3 ∷ 0 ∷ []))
command = refl

-- a unit that is missing
refused : outcome_of (request.Read idn 4) (record { error = true; word = 0x4001 } ∷ good 0 ∷ []) ≡ Some (outcome.Refused (record { raw = 0x4001 }))
refused = refl

-- How many answers they have: the value of four bytes, the name of three bytes, the list of one byte, and the command that runs for
-- a while. A command that still runs has one status more and then the cancel.
value_count : count_of (request.Read idn 7) (0 ∷ 1 ∷ 34 ∷ 65530 ∷ 0 ∷ []) ≡ 5
unfolding attribute_fault attribute_of
value_count = refl

name_count : count_of (request.Read idn 2) (0 ∷ 3 ∷ 60 ∷ 16961 ∷ 67 ∷ []) ≡ 5
name_count = refl

list_count : count_of (request.Write idn 7 (9 ∷ [])) (0 ∷ 1 ∷ 20 ∷ 0 ∷ 0 ∷ 0 ∷ []) ≡ 6
unfolding attribute_fault attribute_of
list_count = refl

command_count : count_of (request.Command idn) (0 ∷ 0 ∷ 7 ∷ 7 ∷ 3 ∷ 0 ∷ []) ≡ 6
command_count = refl

running_count : count_of (request.Command idn) (0 ∷ 0 ∷ 7 ∷ 7 ∷ []) ≡ 6
running_count = refl

-- That command takes 5 where its statuses are read 2 apart: at 2 and at 4 it still runs.
command_in_time : EndsInTime 2 5 (good 0 ∷ good 3 ∷ good 7 ∷ good 7 ∷ good 0 ∷ good 0 ∷ [])
command_in_time zero low seven = omega arith
command_in_time (suc zero) low seven = omega arith
command_in_time (suc (suc zero)) low seven = absurd (cc)
command_in_time (suc (suc (suc k))) low seven = absurd (omega (arith, low))
