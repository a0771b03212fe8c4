-- The procedure commands of a drive through a run. Each list has its newest item first.
use Rattle.std.specs.Prelude.{◌≡◌, if◌then◌else◌, List, [], ◌∷◌}
use Rattle.sercos_command.specs.Calls.{Reset, CommandHistory, with_call}
use Rattle.sercos_command.specs.Kept.{set_in}
use Rattle.sercos_service_drive.specs.Log.{Entry}
use Rattle.sercos_service_drive.specs.Writes.{added_by, commands_with}
use Rattle.sercos_drive.specs.Steps.{reset_in}
use Rattle.sercos_law_channel.specs.Handshake.Views.{View, standing, stood_in}
use Rattle.sercos_law_run.specs.Settings.SetByWrites.{commands_left}

-- the procedure commands at the end of all cycles, of a drive that had these before the first one: phase 0 resets them
abbrev pub commands_ended : CommandHistory → List View → CommandHistory
commands_ended c [] = c
commands_ended c (v ∷ past) = reset_in (standing (v ∷ past)).ended (commands_left v past)

-- and those before the MST of a cycle: a restart resets them
abbrev pub commands_before : CommandHistory → View → List View → CommandHistory
commands_before c v past = if v.drive_restarts then with_call Reset (commands_ended c past) else commands_ended c past

-- At the MST's place of each cycle the procedure commands are those before it, which phase 0 resets.
abbrev pub CommandsFollow : CommandHistory → List View → Type 0
CommandsFollow c [] = Unit {0}
CommandsFollow c (v ∷ past) = CommandsFollow c past × (v.commands ≡ reset_in (stood_in v (standing past)) (commands_before c v past))

-- Each entry of a log was processed with the procedure commands that the entries before it left, and these are those that all left. None
-- is set before the first.
abbrev pub LogLeaves : List Entry → CommandHistory → Type 0
LogLeaves [] c = set_in c ≡ []
LogLeaves (e ∷ log) c = LogLeaves log e.processed.commands × (c ≡ commands_with (added_by e log) e.processed.blocks e.processed.commands)
