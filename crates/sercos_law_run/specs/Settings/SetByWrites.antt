-- Which procedure commands are set, by what was written since the drive was last in phase 0. Each list has its newest item first.
use Rattle.std.specs.Prelude.{◌≡◌, ℕ, ◌==◌, true, false, if◌then◌else◌, List, [], ◌∷◌, Some, is_some}
use Rattle.std.specs.Int.{w16, from_le_bytes}
use Rattle.sercos_command.specs.declared.commands.SetCommand.{SetCommand}
use Rattle.sercos_command.specs.Settings.{is_command}
use Rattle.sercos_command.specs.Calls.{CommandHistory}
use Rattle.sercos_command.specs.Kept.{find_set, set_in}
use Rattle.sercos_service_drive.specs.Log.{Processed}
use Rattle.sercos_service_drive.specs.Replies.{log_of}
use Rattle.sercos_service_drive.specs.Writes.{added_on, commands_with, writes_of}
use Rattle.sercos_law_channel.specs.Handshake.Views.{View, standing, stood_in, processed_in, kept_in}
use Rattle.sercos_law_channel.specs.Handshake.WholeRun.{write_of}
use Rattle.sercos_law_channel.specs.Handshake.Values.{newest_to}

-- the settings are what these records left, if none was set before the first of them
abbrev pub AreSetBy : List Processed → CommandHistory → Type 0
AreSetBy [] c = set_in c ≡ []
AreSetBy (t ∷ h) c = AreSetBy h t.commands × (set_in c ≡ set_in (commands_with (added_on t h) t.blocks t.commands))

-- at each of these records the number was that of a procedure command of the drive
abbrev pub IsCommandAt : ℕ → List Processed → Type 0
IsCommandAt raw [] = Unit {0}
IsCommandAt raw (t ∷ h) = IsCommandAt raw h × (is_command t.blocks raw ≡ true)

-- A procedure command is set if the newest write to it since then isn't 0.
abbrev pub IsSetByWrites : Type 0
IsSetByWrites = (raw : ℕ) (h : List Processed) (c : CommandHistory) (bytes : List ℕ) → AreSetBy h c → IsCommandAt raw h →
    newest_to raw (writes_of (log_of h)) ≡ Some bytes → (from_le_bytes w16 bytes == 0) ≡ false →
    is_some (find_set raw (set_in c)) ≡ true

-- the procedure commands at the end of a cycle, before phase 0 undoes the settings
abbrev pub commands_left : View → List View → CommandHistory
commands_left v past = commands_with (write_of (processed_in v past) (kept_in v past)) v.blocks v.commands

-- the settings at the end of all cycles: none if the drive is in phase 0
abbrev pub settings_left : List View → List SetCommand
settings_left [] = []
settings_left (v ∷ past) = if (standing (v ∷ past)).ended == 0 then [] else set_in (commands_left v past)

-- At the MST's place of each cycle the settings are those that the cycle before left, but none after a restart or in phase 0.
abbrev pub SettingsFollow : List View → Type 0
SettingsFollow [] = Unit {0}
SettingsFollow (v ∷ past) = SettingsFollow past ×
    (set_in v.commands ≡ (if stood_in v (standing past) == 0 then [] else (if v.drive_restarts then [] else settings_left past)))

-- So the settings at each MST's place are what the records since the drive was last in phase 0 left.
abbrev pub SetByKept : Type 0
SetByKept = (v : View) (past : List View) → SettingsFollow (v ∷ past) → AreSetBy (kept_in v past) v.commands
