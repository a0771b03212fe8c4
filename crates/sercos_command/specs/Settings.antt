-- What a procedure command does when it is set, and what its data status is.
use Rattle.std.specs.Prelude.{ℕ, ◌+◌, ◌==◌, nat_le, Bool, false, not, if◌then◌else◌, List, length, Option, Some, None, option_map, unwrap_or}
use Rattle.sercos_idn.specs.Commands.{not_set_status, ended_well_status, running_status, error_status}
use Rattle.sercos_block.specs.declared.block.Block.{Block}
use Rattle.sercos_block.specs.Stores.{find_block, with_data}
use Rattle.sercos_command.specs.declared.commands.SetCommand.{SetCommand}
use Rattle.sercos_command.specs.Checks.{unfit_for_phase_3, unfit_for_phase_4, list_bytes}

-- whether the block with the identifier number is a procedure command
abbrev pub is_command : List Block → ℕ → Bool
is_command blocks raw = unwrap_or (option_map (λ b. b.attribute.command) (find_block raw blocks)) false

-- Whether a command that is newly set ends well: a check if the list that it writes is empty, any
-- other command unless its block is set up to fail.
abbrev pub ends_well : ℕ → ℕ → List Block → Bool
ends_well rate raw blocks =
    if raw == 127 then length (unfit_for_phase_3 rate blocks) == 0
    else (if raw == 128 then length (unfit_for_phase_4 blocks) == 0
    else not (unwrap_or (option_map (λ b. b.fails) (find_block raw blocks)) false))

-- The blocks after a command was newly set: the check for phase 3, S-0-0127, writes the list
-- S-0-0021, that for phase 4, S-0-0128, the list S-0-0022. Any other command writes no list.
abbrev pub with_list_of : ℕ → ℕ → List Block → List Block
with_list_of rate raw blocks =
    if raw == 127 then with_data 21 (list_bytes (unfit_for_phase_3 rate blocks)) blocks
    else (if raw == 128 then with_data 22 (list_bytes (unfit_for_phase_4 blocks)) blocks else blocks)

-- whether a set command has ended in a cycle: it runs for `time` cycles
abbrev pub has_ended : ℕ → ℕ → SetCommand → Bool
has_ended time cycle s = nat_le (s.cycle + time) cycle

-- the data status of a command in a cycle: 0 not set, 7 running, 3 ended well, 15 ended with an
-- error
abbrev pub status_by : ℕ → Option SetCommand → ℕ → ℕ
status_by time None cycle = not_set_status
status_by time (Some s) cycle = if has_ended time cycle s then (if s.well then ended_well_status else error_status) else running_status
