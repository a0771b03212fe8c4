-- Laws on which commands are set, and on their data status. Each list of calls has its newest call
-- first.
use Rattle.std.specs.Prelude.{◌≡◌, ◌≢◌, ◌↔◌, ℕ, ◌+◌, ◌<◌, ◌≤◌, ◌==◌, Bool, true, false, List, [], ◌∷◌, ◌++◌, Some}
use Rattle.std.specs.List.{list_all}
use Rattle.sercos_idn.specs.Commands.{to_cancel}
use Rattle.sercos_command.specs.Settings.{ends_well}
use Rattle.sercos_command.specs.Calls.{CommandCall, CommandWrite, writes_to_command, sets, set_by, is_set, CommandHistory, status_in}

-- whether there is no write, or the newest is a 0
abbrev pub is_unset : List CommandWrite → Bool
is_unset [] = true
is_unset (w ∷ writes) = w.value == to_cancel

-- The newest write to a command since phase 0 isn't 0.
pub record IsSet (raw : ℕ) (h : List CommandCall) : Type 0 where
  pub newest : CommandWrite
  pub before : List CommandWrite
  pub writes : writes_to_command raw h ≡ newest ∷ before
  pub value : newest.value ≢ 0

-- A command is set if and only if the newest write to it since phase 0 isn't 0.
abbrev pub SetByNewest : Type 0
SetByNewest = (raw : ℕ) (h : List CommandCall) → (is_set raw h ≡ true) ↔ IsSet raw h

-- A command was set by this write: neither it nor a later write to the command is 0, and before it
-- there was none, or a 0.
pub record IsSetFirst (raw : ℕ) (h : List CommandCall) (w : CommandWrite) : Type 0 where
  pub later : List CommandWrite
  pub earlier : List CommandWrite
  pub writes : writes_to_command raw h ≡ later ++ w ∷ earlier
  pub no_cancel_later : list_all sets later ≡ true
  pub value : w.value ≢ 0
  pub unset_before : is_unset earlier ≡ true

-- A command is set by the first write after the last 0.
abbrev pub SetByFirst : Type 0
SetByFirst = (raw : ℕ) (h : List CommandCall) (w : CommandWrite) → set_by raw h ≡ Some w → IsSetFirst raw h w

-- The data status of a command set by write `w`: 7 for the drive's command time, and then 3 if it
-- ends well, otherwise 15.
pub record HasStatus (c : CommandHistory) (raw : ℕ) (w : CommandWrite) (cycle : ℕ) : Type 0 where
  pub runs : cycle < w.cycle + c.time → status_in c raw cycle ≡ 7
  pub ends : w.cycle + c.time ≤ cycle → ends_well c.rate raw w.blocks ≡ true → status_in c raw cycle ≡ 3
  pub fails : w.cycle + c.time ≤ cycle → ends_well c.rate raw w.blocks ≡ false → status_in c raw cycle ≡ 15

-- The data status of a command that isn't set is 0; that of each set command is as above.
abbrev pub StatusSays : Type 0
StatusSays = (c : CommandHistory) (raw cycle : ℕ)
    → (is_set raw c.calls ≡ false → status_in c raw cycle ≡ 0)
    × ((w : CommandWrite) → set_by raw c.calls ≡ Some w → HasStatus c raw w cycle)
