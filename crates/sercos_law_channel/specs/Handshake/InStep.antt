-- Both ends of a channel are in step. Each list has its newest item first.
use Rattle.std.specs.Prelude.{◌≡◌, List, [], ◌∷◌, Option, Some, None}
use Rattle.sercos_step.specs.declared.step.Step.{Step}
use Rattle.sercos_step.specs.declared.step.Answer.{Answer}
use Rattle.sercos_service_master.specs.Begun.{Begun, open_in, steps_in, answers_in}
use Rattle.sercos_service_drive.specs.Log.{Entry}

-- the steps of a log, and the replies to them
abbrev pub log_steps : List Entry → List Step
log_steps [] = []
log_steps (e ∷ log) = e.processed.step ∷ log_steps log

abbrev pub replies_of : List Entry → List Answer
replies_of [] = []
replies_of (e ∷ log) = e.answer ∷ replies_of log

-- The steps that were accepted are all that were begun, or all but the last; and each answer that was taken is the reply to
-- that very step. No step is open: all are accepted and answered. Or one is open, which the drive hasn't accepted yet. Or
-- one is open, which the drive has accepted, and the master hasn't taken the answer yet.
pub data InStep («open» : Option Step) (steps : List Step) (answers : List Answer) (log : List Entry) : Type 0 where
  Idle : («open» ≡ None) → (steps ≡ log_steps log) → (answers ≡ replies_of log) → InStep «open» steps answers log
  Sent : (s : Step) → («open» ≡ Some s) → (steps ≡ s ∷ log_steps log) → (answers ≡ replies_of log) → InStep «open» steps answers log
  Kept : (e : Entry) (past : List Entry) → («open» ≡ Some e.processed.step) → (log ≡ e ∷ past) → (steps ≡ log_steps log) →
      (answers ≡ replies_of past) →
      InStep «open» steps answers log

-- .. where these requests were begun
abbrev pub AreInStep : List Begun → List Entry → Type 0
AreInStep begun log = InStep (open_in begun) (steps_in begun) (answers_in begun) log
