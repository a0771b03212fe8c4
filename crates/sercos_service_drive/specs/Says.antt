-- What a drive sends on the service channel after the records that it processed.
use Rattle.std.specs.Prelude.{ℕ, ◌-◌, nat_le, Bool, true, false, if◌then◌else◌, List, [], ◌∷◌}
use Rattle.sercos_telegram.specs.declared.words.Status.{Status}
use Rattle.sercos_command.specs.Calls.{CommandHistory, change_in}
use Rattle.sercos_service_drive.specs.Log.{Processed, Entry, ahs}
use Rattle.sercos_service_drive.specs.Replies.{log_of}

-- the bits of the status word that belong to the service channel, and the information word
pub record Shown : Type 0 where
  pub ahs : Bool
  pub busy : Bool
  pub error : Bool
  pub change : Bool
  pub word : ℕ

-- What is shown in a cycle. As long as the last accepted step is no older than the busy time, the
-- drive is busy. After that it shows the reply. If no step was accepted, it shows only the bits.
abbrev pub shown : ℕ → ℕ → Bool → Bool → List Entry → Shown
shown busy cycle bit change [] = record { ahs = bit; busy = false; error = false; change = change; word = 0 }
shown busy cycle bit change (e ∷ log) =
    if nat_le (cycle - e.processed.cycle) busy
    then record { ahs = bit; busy = true; error = false; change = change; word = 0 }
    else record { ahs = bit; busy = false; error = e.answer.error; change = change; word = e.answer.word }

-- what the channel shows in a cycle after these records
abbrev pub channel_says : ℕ → ℕ → CommandHistory → List Processed → Shown
channel_says busy cycle commands h = shown busy cycle (ahs h) (change_in commands cycle) (log_of h)

-- what a status and an information word show
abbrev pub shown_by : Status → ℕ → Shown
shown_by status word = record { ahs = status.ahs; busy = status.busy; error = status.error; change = status.change; word = word }
