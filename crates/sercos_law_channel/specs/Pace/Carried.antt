-- When a procedure command that runs was set: by the newest write to it, if each cycle begins with what the one before left. Each list has
-- its newest item first.
use Rattle.std.specs.Prelude.{◌≡◌, ℕ, List, [], ◌∷◌, Some}
use Rattle.sercos_command.specs.declared.commands.SetCommand.{SetCommand}
use Rattle.sercos_command.specs.Kept.{find_set, set_in}
use Rattle.sercos_service_drive.specs.Writes.{commands_with}
use Rattle.sercos_law_channel.specs.Handshake.Views.{View, processed_in, kept_in}
use Rattle.sercos_law_channel.specs.Handshake.WholeRun.{write_of}
use Rattle.sercos_law_channel.specs.Pace.Costs.{AreTimed}

-- what is set at the end of the cycle before
abbrev pub set_after : List View → List SetCommand
set_after [] = []
set_after (v ∷ past) = set_in (commands_with (write_of (processed_in v past) (kept_in v past)) v.blocks v.commands)

-- What is set when an MDT arrives was set then, and a command runs for `time` cycles.
pub record IsCarried (time : ℕ) (v : View) (past : List View) : Type 0 where
  pub takes : v.commands.time ≡ time
  pub carried : (raw : ℕ) (s : SetCommand) → find_set raw (set_in v.commands) ≡ Some s → find_set raw (set_after past) ≡ Some s

abbrev pub AreCarried : ℕ → List View → Type 0
AreCarried time [] = Unit {0}
AreCarried time (v ∷ past) = AreCarried time past × IsCarried time v past

-- Then a command that runs was set by the newest write to it.
abbrev pub ComesTimed : Type 0
ComesTimed = (time : ℕ) (past : List View) → AreCarried time past → AreTimed time past
