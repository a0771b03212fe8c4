-- The effect of the calls on a drive's procedure commands. Each list of calls has its newest call
-- first.
use Rattle.std.specs.Prelude.{ℕ, ◌+◌, ◌==◌, nat_le, Bool, false, not, ◌&&◌, ◌||◌, if◌then◌else◌, List, [], ◌∷◌, length, take, drop, Option, None, is_some, option_map, unwrap_or}
use Rattle.std.specs.List.{list_all, list_any, last_or, range_with_len, take_while}
use Rattle.sercos_idn.specs.Commands.{to_cancel}
use Rattle.sercos_block.specs.declared.block.Block.{Block}
use Rattle.sercos_command.specs.declared.commands.SetCommand.{SetCommand}
use Rattle.sercos_command.specs.Settings.{ends_well, has_ended, status_by, with_list_of}

-- A write to a procedure command: its number, the value, which is 0 or 3, the cycle, and the data
-- blocks, which have the new value already, but not yet the list that a check writes. Or a write to
-- other operation data, whose cycle is for proofs alone. Or the drive is in phase 0, or restarts.
pub data CommandCall : Type 0 where
  Wrote : (raw value cycle : ℕ) → List Block → CommandCall
  Other : (cycle : ℕ) → CommandCall
  Reset : CommandCall

-- a write to one command: its value, its cycle, and the blocks at that moment
pub record CommandWrite : Type 0 where
  pub value : ℕ
  pub cycle : ℕ
  pub blocks : List Block

-- the writes to a command since phase 0, the newest first
abbrev pub writes_to_command : ℕ → List CommandCall → List CommandWrite
writes_to_command raw [] = []
writes_to_command raw (Reset ∷ h) = []
writes_to_command raw (Other cycle ∷ h) = writes_to_command raw h
writes_to_command raw (Wrote other value cycle blocks ∷ h) =
    if other == raw then record { value = value; cycle = cycle; blocks = blocks } ∷ writes_to_command raw h
    else writes_to_command raw h

-- whether a write is anything but 0; a further 3 counts too, but changes nothing
abbrev pub sets : CommandWrite → Bool
sets w = not (w.value == to_cancel)

-- The write that set a command: the first since the last 0. `None` if the newest write since phase
-- 0 is 0, or there is none.
abbrev pub set_by : ℕ → List CommandCall → Option CommandWrite
set_by raw h = last_or None (take_while sets (writes_to_command raw h))

-- whether a command is set
abbrev pub is_set : ℕ → List CommandCall → Bool
is_set raw h = is_some (set_by raw h)

-- the setting that a write makes: its cycle, and whether the command ends well
abbrev pub setting_by : ℕ → ℕ → CommandWrite → SetCommand
setting_by rate raw w = record { idn = record { raw = raw }; cycle = w.cycle; well = ends_well rate raw w.blocks }

-- the setting of a command after these calls
abbrev pub setting_of : ℕ → ℕ → List CommandCall → Option SetCommand
setting_of rate raw h = option_map (setting_by rate raw) (set_by raw h)

-- Whether a call after the setting of a check doesn't undo it: it doesn't cancel it before the
-- cycle of its end, doesn't write other operation data, and isn't phase 0.
abbrev pub spares_check : ℕ → ℕ → CommandCall → Bool
spares_check check end (Wrote raw value cycle blocks) = not ((raw == check) && (value == to_cancel)) || nat_le end cycle
spares_check check end (Other cycle) = false
spares_check check end Reset = false

-- Whether a write makes a check count as passed in a cycle, after the earlier calls and before the
-- later ones. It sets the check, which wasn't set; the cycle of its end is reached; no later call
-- undoes it; and the check finds nothing. The last list is the write and the calls before it.
abbrev pub passes_check : ℕ → ℕ → ℕ → ℕ → List CommandCall → List CommandCall → Bool
passes_check rate time check cycle later (Wrote raw value at blocks ∷ earlier) =
    (raw == check) && (not (value == to_cancel) && (not (is_set check earlier)
    && (nat_le (at + time) cycle && (list_all (spares_check check (at + time)) later && ends_well rate check blocks))))
passes_check rate time check cycle later earlier = false

-- Whether a check, S-0-0127 or S-0-0128, counts as passed in a cycle: some write made it so.
abbrev pub is_passed : ℕ → ℕ → ℕ → List CommandCall → ℕ → Bool
is_passed rate time check h cycle =
    list_any (λ k. passes_check rate time check cycle (take k h) (drop k h)) (range_with_len 0 (length h))

-- The history of a drive's procedure commands: the rate of its ring in bits per microsecond, the
-- number of cycles for which a command runs, and the calls.
pub record CommandHistory : Type 0 where
  pub rate : ℕ
  pub time : ℕ
  pub calls : List CommandCall

-- the history with one more call
abbrev pub with_call : CommandCall → CommandHistory → CommandHistory
with_call call c = record { rate = c.rate; time = c.time; calls = call ∷ c.calls }

-- the data status of an identifier number in a cycle: 0 not set, 7 running, 3 ended well, 15 ended
-- with an error
abbrev pub status_in : CommandHistory → ℕ → ℕ → ℕ
status_in c raw cycle = status_by c.time (setting_of c.rate raw c.calls) cycle

-- the identifier numbers of the commands written to
abbrev pub command_numbers : List CommandCall → List ℕ
command_numbers [] = []
command_numbers (Wrote raw value cycle blocks ∷ h) = raw ∷ command_numbers h
command_numbers (Other cycle ∷ h) = command_numbers h
command_numbers (Reset ∷ h) = command_numbers h

-- whether a command is set and has ended in a cycle
abbrev pub has_command_ended : CommandHistory → ℕ → ℕ → Bool
has_command_ended c raw cycle = unwrap_or (option_map (has_ended c.time cycle) (setting_of c.rate raw c.calls)) false

-- The change bit in a cycle: whether some command that was written to is set and has ended.
abbrev pub change_in : CommandHistory → ℕ → Bool
change_in c cycle = list_any (λ raw. has_command_ended c raw cycle) (command_numbers c.calls)

-- The blocks after a write to a command. `c` has the calls before it, and the blocks have its value
-- already. A 3 that newly sets a check writes the list of what is unfit. A further 3, and a 0,
-- write no list.
unfoldable pub with_check_list : CommandHistory → ℕ → ℕ → List Block → List Block
with_check_list c raw value blocks =
    if not (value == to_cancel) && not (is_set raw c.calls) then with_list_of c.rate raw blocks else blocks
