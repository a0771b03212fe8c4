-- Whether each check for phase 3 that a drive was set to ends well. Each list has its newest item first.
use Rattle.std.specs.Prelude.{◌≡◌, ◌==◌, Bool, true, false, not, ◌||◌, List, [], ◌∷◌, Some, ◌⊎◌}
use Rattle.std.specs.List.{list_all}
use Rattle.sercos_block.specs.declared.block.Block.{Block}
use Rattle.sercos_block.specs.Stores.{with_data}
use Rattle.sercos_command.specs.declared.commands.SetCommand.{SetCommand}
use Rattle.sercos_command.specs.Settings.{ends_well}
use Rattle.sercos_command.specs.Calls.{CommandHistory}
use Rattle.sercos_command.specs.Kept.{set_in}
use Rattle.sercos_service_drive.specs.Writes.{Write, command_value}
use Rattle.sercos_law_channel.specs.Handshake.Views.{View, processed_in, kept_in}
use Rattle.sercos_law_channel.specs.Handshake.WholeRun.{write_of}
use Rattle.sercos_law_run.specs.Settings.SetByWrites.{commands_left}

-- whether each check for phase 3 that is set ends well
abbrev pub is_well_set : SetCommand → Bool
is_well_set s = not (s.idn.raw == 127) || s.well

abbrev pub are_well_set : CommandHistory → Bool
are_well_set c = list_all is_well_set (set_in c)

-- At the MST's place of a cycle no command is set, or those are that the cycle before left.
abbrev pub KeepsSettings : View → List View → Type 0
KeepsSettings v [] = set_in v.commands ≡ []
KeepsSettings v (u ∷ past) = (set_in v.commands ≡ []) ⊎ (set_in v.commands ≡ set_in (commands_left u past))

-- If a check for phase 3 is set in a cycle, it ends well: it finds nothing in the drive's blocks, as the write that sets it leaves
-- them.
abbrev pub SetsWell : View → List View → Type 0
SetsWell v past = (w : Write) → write_of (processed_in v past) (kept_in v past) ≡ Some w → w.raw ≡ 127 → (command_value w == 0) ≡ false →
    ends_well v.commands.rate 127 (with_data 127 w.bytes v.blocks) ≡ true

-- Both hold in each cycle.
abbrev pub AreSetWell : List View → Type 0
AreSetWell [] = Unit {0}
AreSetWell (v ∷ past) = AreSetWell past × KeepsSettings v past × SetsWell v past

-- Each check for phase 3 that is set at the MST's place of a cycle ends well.
abbrev pub StandWell : List View → Type 0
StandWell [] = Unit {0}
StandWell (v ∷ past) = StandWell past × (are_well_set v.commands ≡ true)

-- in each cycle the drive's blocks have this property
abbrev pub HaveStores : (List Block → Type 0) → List View → Type 0
HaveStores such [] = Unit {0}
HaveStores such (v ∷ past) = HaveStores such past × such v.blocks
