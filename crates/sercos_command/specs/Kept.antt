-- The state of a drive's procedure commands, call by call. Used in proofs alone.
use Rattle.std.specs.Prelude.{◌≡◌, ℕ, ◌+◌, ◌≤◌, ◌==◌, nat_le, Bool, true, false, not, ◌&&◌, ◌||◌, if◌then◌else◌, List, [], ◌∷◌, ◌++◌, min, Option, Some, None, is_some, is_none}
use Rattle.std.specs.List.{find, filter, list_all, list_any}
use Rattle.sercos_idn.specs.Commands.{to_cancel}
use Rattle.sercos_block.specs.declared.block.Block.{Block}
use Rattle.sercos_command.specs.declared.commands.SetCommand.{SetCommand}
use Rattle.sercos_command.specs.Settings.{is_command, ends_well, with_list_of, has_ended, status_by}
use Rattle.sercos_command.specs.Calls.{CommandCall, Wrote, Other, Reset, CommandHistory}

-- The ring's rate in bits per microsecond, the number of cycles for which a command runs, the
-- commands that are set, and for each check the first cycle in which it counts as passed.
pub record CommandsView : Type 0 where
  pub rate : ℕ
  pub time : ℕ
  pub set : List SetCommand
  pub passed_127 : Option ℕ
  pub passed_128 : Option ℕ

-- the setting of a command; `None` if it isn't set
abbrev pub find_set : ℕ → List SetCommand → Option SetCommand
find_set raw set = find (λ s. s.idn.raw == raw) set

-- the settings after a write of 0, which cancels the command
abbrev pub without : ℕ → List SetCommand → List SetCommand
without raw set = filter (λ s. not (s.idn.raw == raw)) set

-- the settings after a write of 3, which changes nothing if the command is set
abbrev pub with_set : SetCommand → List SetCommand → List SetCommand
with_set s set = if is_some (find_set s.idn.raw set) then set else set ++ s ∷ []

-- the data status of a command in a cycle
abbrev pub status_kept : CommandsView → ℕ → ℕ → ℕ
status_kept v raw cycle = status_by v.time (find_set raw v.set) cycle

-- whether some set command has ended in a cycle
abbrev pub change_kept : CommandsView → ℕ → Bool
change_kept v cycle = list_any (has_ended v.time cycle) v.set

-- whether a check counts as passed in a cycle, if it does so from `first` on
abbrev pub is_from : Option ℕ → ℕ → Bool
is_from None cycle = false
is_from (Some first) cycle = nat_le first cycle

-- the first cycle in which a check counts as passed, after a setting that ends well in cycle `end`
abbrev pub from_setting : ℕ → Option ℕ → Option ℕ
from_setting end None = Some end
from_setting end (Some first) = Some (min first end)

-- the same after a cancel, which undoes a check that hasn't ended
abbrev pub from_cancel : ℕ → Option ℕ → Option ℕ
from_cancel cycle None = None
from_cancel cycle (Some first) = if nat_le first cycle then Some first else None

-- whether a write of a value to a command cancels this check
abbrev pub cancels_check : ℕ → ℕ → ℕ → Bool
cancels_check check raw value = (value == to_cancel) && (raw == check)

-- whether a write newly sets this check, so that it ends well
abbrev pub sets_check : ℕ → List SetCommand → ℕ → ℕ → ℕ → List Block → Bool
sets_check rate set check raw value blocks =
    not (value == to_cancel) && ((raw == check) && (is_none (find_set raw set) && ends_well rate raw blocks))

-- The first cycle in which the check counts as passed, after a write to a command. A write that
-- neither cancels nor sets the check changes nothing.
abbrev pub from_write : ℕ → ℕ → List SetCommand → ℕ → ℕ → ℕ → ℕ → List Block → Option ℕ → Option ℕ
from_write rate time set check raw value cycle blocks first =
    if cancels_check check raw value then from_cancel cycle first
    else (if sets_check rate set check raw value blocks then from_setting (cycle + time) first else first)

-- the settings after a write of 0 or 3 to a command in a cycle, with these blocks
abbrev pub settings_with : ℕ → ℕ → ℕ → ℕ → List Block → List SetCommand → List SetCommand
settings_with rate raw value cycle blocks set =
    if value == to_cancel then without raw set
    else with_set (record { idn = record { raw = raw }; cycle = cycle; well = ends_well rate raw blocks }) set

-- the state after such a write
unfoldable pub with_write : ℕ → ℕ → ℕ → List Block → CommandsView → CommandsView
with_write raw value cycle blocks v = record {
  rate = v.rate;
  time = v.time;
  set = settings_with v.rate raw value cycle blocks v.set;
  passed_127 = from_write v.rate v.time v.set 127 raw value cycle blocks v.passed_127;
  passed_128 = from_write v.rate v.time v.set 128 raw value cycle blocks v.passed_128;
}

-- the state after a write to operation data other than a command's: no check counts as passed
abbrev pub without_checks : CommandsView → CommandsView
without_checks v = record v { passed_127 = None; passed_128 = None }

-- the state in phase 0: no command is set, and no check counts as passed
abbrev pub without_settings : CommandsView → CommandsView
without_settings v = record { rate = v.rate; time = v.time; set = []; passed_127 = None; passed_128 = None }

-- the blocks after a write to a command: a check that is newly set writes its list
unfoldable pub with_check_list_kept : CommandsView → ℕ → ℕ → List Block → List Block
with_check_list_kept v raw value blocks =
    if not (value == to_cancel) && is_none (find_set raw v.set) then with_list_of v.rate raw blocks else blocks

-- whether no command is set twice
unfoldable pub are_distinct : List SetCommand → Bool
are_distinct [] = true
are_distinct (s ∷ set) = is_none (find_set s.idn.raw set) && are_distinct set

-- whether each command that is set is one of the drive's blocks
abbrev pub are_commands_of : List Block → CommandsView → Bool
are_commands_of blocks v = list_all (λ s. is_command blocks s.idn.raw) v.set

-- the cycle of a call; that before it for phase 0, which has none
abbrev pub cycle_of : CommandCall → ℕ → ℕ
cycle_of (Wrote raw value cycle blocks) before = cycle
cycle_of (Other cycle) before = cycle
cycle_of Reset before = before

-- the cycle of the newest call that has one; 0 if no call has one
abbrev pub newest_cycle : List CommandCall → ℕ
newest_cycle [] = 0
newest_cycle (c ∷ h) = cycle_of c (newest_cycle h)

-- no call is in an earlier cycle than the calls before it, which follow it in the list
abbrev pub AreInOrder : List CommandCall → Type 0
AreInOrder [] = Unit {0}
AreInOrder (c ∷ h) = AreInOrder h × (newest_cycle h ≤ newest_cycle (c ∷ h))

-- the commands that are set after these calls
abbrev pub settings : ℕ → List CommandCall → List SetCommand
settings rate [] = []
settings rate (Reset ∷ h) = []
settings rate (Other cycle ∷ h) = settings rate h
settings rate (Wrote raw value cycle blocks ∷ h) = settings_with rate raw value cycle blocks (settings rate h)

-- the first cycle in which a check counts as passed after these calls
abbrev pub first_passed : ℕ → ℕ → ℕ → List CommandCall → Option ℕ
first_passed rate time check [] = None
first_passed rate time check (Reset ∷ h) = None
first_passed rate time check (Other cycle ∷ h) = None
first_passed rate time check (Wrote raw value cycle blocks ∷ h) =
    from_write rate time (settings rate h) check raw value cycle blocks (first_passed rate time check h)

-- Whether a check counts as passed in a cycle, call by call: after a cancel, if it did so in the
-- cycle of the cancel too.
abbrev pub passed_so_far : ℕ → ℕ → ℕ → List CommandCall → ℕ → Bool
passed_so_far rate time check [] cycle = false
passed_so_far rate time check (Reset ∷ h) cycle = false
passed_so_far rate time check (Other c ∷ h) cycle = false
passed_so_far rate time check (Wrote raw value c blocks ∷ h) cycle =
    if raw == check
    then (if value == to_cancel then passed_so_far rate time check h (min cycle c)
    else ((is_none (find_set check (settings rate h)) && (ends_well rate check blocks && nat_le (c + time) cycle))
    || passed_so_far rate time check h cycle))
    else passed_so_far rate time check h cycle

-- the commands that are set in this history
abbrev pub set_in : CommandHistory → List SetCommand
set_in c = settings c.rate c.calls

-- the first cycle in which a check counts as passed in this history
abbrev pub first_passed_in : ℕ → CommandHistory → Option ℕ
first_passed_in check c = first_passed c.rate c.time check c.calls

-- the state is that after this history
pub record CommandsStandFor (v : CommandsView) (c : CommandHistory) : Type 0 where
  pub rate_is : v.rate ≡ c.rate
  pub time_is : v.time ≡ c.time
  pub set_is : v.set ≡ set_in c
  pub passed_127_is : v.passed_127 ≡ first_passed_in 127 c
  pub passed_128_is : v.passed_128 ≡ first_passed_in 128 c
