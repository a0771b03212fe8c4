-- The effect of each part of a call on the state of a drive. Used in proofs alone.
use Rattle.std.specs.Prelude.{◌≡◌, ℕ, ◌+◌, ◌==◌, nat_le, Bool, not, ◌&&◌, ◌||◌, if◌then◌else◌, List, Option, Some, None}
use Rattle.sercos_command.specs.Calls.{CommandHistory, is_passed}
use Rattle.sercos_command.specs.Kept.{CommandsStandFor}
use Rattle.sercos_service_drive.specs.Log.{Processed, processed_record}
use Rattle.sercos_service_drive.specs.Writes.{Write}
use Rattle.sercos_service_drive.specs.Kept.{ChannelStandsFor}
use Rattle.sercos_drive.specs.declared.hearing.Told.{Told}
use Rattle.sercos_drive.specs.Moments.{unless_phase_0, with_record, write_in, blocks_after, calls_after, with_reset}
use Rattle.sercos_drive.specs.Kept.{DriveState, IsSlot, counted}

-- whether the drive may rise to this phase in a cycle
abbrev pub may_rise_by : CommandHistory → ℕ → ℕ → Bool
may_rise_by c cycle phase =
    nat_le phase 2 || (if phase == 3 then is_passed c.rate c.time 127 c.calls cycle else is_passed c.rate c.time 128 c.calls cycle)

-- the phase after the MST's time slot
abbrev pub goes_to : DriveState → CommandHistory → ℕ → Option ℕ → ℕ
goes_to v c cycle None = if v.got then v.phase else 0
goes_to v c cycle (Some phase) =
    if phase == v.phase then phase
    else (if (phase == v.phase + 1) && may_rise_by c cycle phase then phase else 0)

-- the procedure commands after a record
abbrev pub commands_after : Option Processed → List Processed → CommandHistory → CommandHistory
commands_after r h c = record { rate = c.rate; time = c.time; calls = calls_after r h c.calls }

-- the procedure commands in a phase; phase 0 resets them
abbrev pub reset_in : ℕ → CommandHistory → CommandHistory
reset_in phase c = record { rate = c.rate; time = c.time; calls = with_reset phase c.calls }

-- The drive has moved to this phase.
pub record IsEntered (v w : DriveState) (phase : ℕ) : Type 0 where
  pub same : w ≡ record v { phase = phase; commands = w.commands; channel = w.channel }
  pub channel : (busy : ℕ) (h : List Processed) → ChannelStandsFor v.channel busy h →
      ChannelStandsFor w.channel busy (unless_phase_0 phase h)
  pub commands : (c : CommandHistory) → CommandsStandFor v.commands c → CommandsStandFor w.commands (reset_in phase c)

-- the record of an MDT
abbrev pub record_by : DriveState → CommandHistory → Told → Processed
record_by v c told = processed_record v.cycle v.phase told.control told.info v.blocks c

-- the record that is processed, if there is one
abbrev pub processed_by : DriveState → CommandHistory → Option Told → Option Processed
processed_by v c None = None
processed_by v c (Some told) = if v.got && nat_le 2 v.phase then Some (record_by v c told) else None

-- the count of writes after a record
abbrev pub counted_with : Option Write → ℕ → ℕ
counted_with None n = n
counted_with (Some w) n = counted (n + 1)

-- A record was processed after these records, if there was one. The procedure commands were those
-- after the calls `c`.
pub record IsProcessed (v w : DriveState) (busy : ℕ) (c : CommandHistory) (r : Option Processed) (h : List Processed) : Type 0 where
  pub same : w ≡ record v {
    writes = counted_with (write_in r h) v.writes;
    channel = w.channel;
    commands = w.commands;
    blocks = blocks_after r h v.blocks;
    slot = w.slot;
  }
  pub slot : IsSlot v.slot v.blocks → IsSlot w.slot w.blocks
  pub channel : ChannelStandsFor w.channel busy (with_record r h)
  pub commands : CommandsStandFor w.commands (commands_after r h c)

-- the phase after the MDT's time slot
abbrev pub ends_with : DriveState → Bool → ℕ
ends_with v took = if nat_le 3 v.phase && (not took && v.missed) then 0 else v.phase
