-- How long a channel is at work in an epoch in which nothing of it is lost. Each list has its newest item first.
use Rattle.std.specs.Prelude.{◌≡◌, ℕ, ◌+◌, ◌*◌, ◌<◌, ◌≤◌, Bool, true, false, if◌then◌else◌, List, [], ◌∷◌, length, Some, None, is_some}
use Rattle.sercos_step.specs.declared.step.Answer.{Answer}
use Rattle.sercos_service_drive.specs.Log.{Entry}
use Rattle.sercos_service_master.specs.Begun.{open_in, steps_in, answers_in, answers_it}
use Rattle.sercos_law_channel.specs.Handshake.InStep.{log_steps}
use Rattle.sercos_law_channel.specs.Handshake.Views.{Heard, View, processed_in}
use Rattle.sercos_law_channel.specs.Handshake.Epochs.{unless_restart, epoch_begun, begun_in, epoch_log}
use Rattle.sercos_law_channel.specs.Handshake.Runs.{IsRun}

-- In a cycle nothing of the channel is lost: if a step is open at its start, the drive's AT is heard; and if one is open at its end, the
-- drive processes the record.
pub record IsUndisturbed (v : View) (past : List View) : Type 0 where
  pub hears : is_some (open_in (unless_restart v (epoch_begun past))) ≡ true → is_some v.heard ≡ true
  pub takes : is_some (open_in (begun_in v past)) ≡ true → is_some (processed_in v past) ≡ true

-- .. and so it is in each cycle of the epoch
abbrev pub AreUndisturbed : List View → Type 0
AreUndisturbed [] = Unit {0}
AreUndisturbed (v ∷ past) = v.falls ≡ false → IsUndisturbed v past × (v.master_restarts ≡ false → AreUndisturbed past)

-- in how many cycles of the epoch a step was open at the end
abbrev pub one_more : Bool → ℕ → ℕ
one_more true n = n + 1
one_more false n = n

abbrev pub open_in_cycle : View → List View → ℕ → ℕ
open_in_cycle v past n = one_more (is_some (open_in (begun_in v past))) (if v.master_restarts then 0 else n)

abbrev pub open_cycles : List View → ℕ
open_cycles [] = 0
open_cycles (v ∷ past) = if v.falls then 0 else open_in_cycle v past (open_cycles past)

-- each answer takes the drive's busy time and one cycle more
abbrev pub time_for : ℕ → List Answer → ℕ
time_for busy [] = 0
time_for busy (a ∷ answers) = time_for busy answers + (busy + 1)

-- No step is open, and all those cycles went into the answers. Or one is open: the drive accepted it at most its busy time ago, and the
-- cycles before that went into the answers.
pub data IsOnTime (busy : ℕ) (past : List View) : Type 0 where
  Rests : open_in (epoch_begun past) ≡ None → open_cycles past ≡ time_for busy (answers_in (epoch_begun past)) → IsOnTime busy past
  Waits : (e : Entry) (log : List Entry) → epoch_log past ≡ e ∷ log → open_in (epoch_begun past) ≡ Some e.processed.step →
      steps_in (epoch_begun past) ≡ log_steps (epoch_log past) → e.processed.cycle < length past →
      length past ≤ e.processed.cycle + (busy + 1) →
      open_cycles past + e.processed.cycle ≡ time_for busy (answers_in (epoch_begun past)) + length past → IsOnTime busy past

-- In an epoch in which nothing is lost a channel is on time.
abbrev pub AreOnTime : ℕ → Type 0
AreOnTime busy = (past : List View) → IsRun busy past → AreUndisturbed past → IsOnTime busy past

-- An answer arrives busy time and one cycle after the cycle in which the drive accepted its step.
abbrev pub AnswersOnTime : ℕ → Type 0
AnswersOnTime busy = (v : View) (past : List View) (a : Heard) → IsRun busy (v ∷ past) → AreUndisturbed past → v.heard ≡ Some a →
    answers_it (unless_restart v (epoch_begun past)) a.status ≡ true →
    (e : Entry) × (log : List Entry) × (epoch_log past ≡ e ∷ log) × (length past ≡ e.processed.cycle + (busy + 1))

-- So the cycles in which a step was open are at most busy time and one for each step that was begun.
abbrev pub TakesTime : ℕ → Type 0
TakesTime busy = (past : List View) → IsRun busy past → AreUndisturbed past →
    open_cycles past ≤ (busy + 1) * length (steps_in (epoch_begun past))
