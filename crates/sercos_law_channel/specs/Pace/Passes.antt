-- How a drive's check of S-0-0127 or S-0-0128 comes to count as passed.
use Rattle.std.specs.Prelude.{◌≡◌, ℕ, ◌+◌, ◌≤◌, true, List, [], ◌∷◌, Some, None}
use Rattle.sercos_idn.specs.Commands.{to_cancel, to_set}
use Rattle.sercos_block.specs.declared.block.Block.{Block}
use Rattle.sercos_block.specs.Stores.{with_data}
use Rattle.sercos_command.specs.Settings.{is_command, ends_well}
use Rattle.sercos_command.specs.Calls.{CommandHistory}
use Rattle.sercos_command.specs.Kept.{find_set, set_in, first_passed_in}
use Rattle.sercos_service_drive.specs.Writes.{Write, commands_with}

-- a write of a number to a procedure command, which sets or cancels it
abbrev pub sets_to : ℕ → ℕ → ℕ → Write
sets_to raw value cycle = record { cycle = cycle; raw = raw; bytes = value ∷ 0 ∷ [] }

-- A check that isn't set and would end well is set: then it counts as passed from its end on, no later than after the time of a command.
abbrev pub PassesBySetting : Type 0
PassesBySetting = (c : CommandHistory) (blocks : List Block) (cycle : ℕ) → is_command blocks 127 ≡ true → find_set 127 (set_in c) ≡ None →
    ends_well c.rate 127 (with_data 127 (to_set ∷ 0 ∷ []) blocks) ≡ true →
    (first : ℕ) × (first_passed_in 127 (commands_with (Some (sets_to 127 to_set cycle)) blocks c) ≡ Some first) × (first ≤ cycle + c.time)

abbrev pub PassesLast : Type 0
PassesLast = (c : CommandHistory) (blocks : List Block) (cycle : ℕ) → is_command blocks 128 ≡ true → find_set 128 (set_in c) ≡ None →
    ends_well c.rate 128 (with_data 128 (to_set ∷ 0 ∷ []) blocks) ≡ true →
    (first : ℕ) × (first_passed_in 128 (commands_with (Some (sets_to 128 to_set cycle)) blocks c) ≡ Some first) × (first ≤ cycle + c.time)

-- Its cancel, once it counts, leaves it so.
abbrev pub StaysPassed : Type 0
StaysPassed = (c : CommandHistory) (blocks : List Block) (cycle first : ℕ) → is_command blocks 127 ≡ true →
    first_passed_in 127 c ≡ Some first → first ≤ cycle →
    first_passed_in 127 (commands_with (Some (sets_to 127 to_cancel cycle)) blocks c) ≡ Some first

abbrev pub StaysPassedLast : Type 0
StaysPassedLast = (c : CommandHistory) (blocks : List Block) (cycle first : ℕ) → is_command blocks 128 ≡ true →
    first_passed_in 128 c ≡ Some first → first ≤ cycle →
    first_passed_in 128 (commands_with (Some (sets_to 128 to_cancel cycle)) blocks c) ≡ Some first
