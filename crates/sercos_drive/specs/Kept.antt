-- The state of a drive, and the calls that led to it. Used in proofs alone.
use Rattle.std.specs.Prelude.{◌≡◌, ℕ, ◌^◌, ◌-◌, ◌≤◌, Bool, List, length, min}
use Rattle.std.specs.List.{flat_map}
use Rattle.sercos_block.specs.declared.block.Block.{Block}
use Rattle.sercos_block.specs.Views.{DriveView}
use Rattle.sercos_command.specs.Checks.{idns_at}
use Rattle.sercos_command.specs.Kept.{newest_cycle, AreInOrder, CommandsView, CommandsStandFor}
use Rattle.sercos_service_drive.specs.Kept.{ChannelView, ChannelStandsFor}
use Rattle.sercos_drive.specs.Heard.{DriveCall}
use Rattle.sercos_drive.specs.Moments.{Moment, phase_in, cycle_in, has_mst, has_taken, has_missed, records_in, writes_in, blocks_in, commands_in, calls_in}
use Rattle.sercos_drive.specs.Annals.{annals}
use Rattle.sercos_drive.specs.declared.slot.Slot.{Slot}
use Rattle.sercos_drive.specs.Slots.{slot_of, bytes_at}
use Rattle.sercos_drive.specs.Says.{value_in}

-- the slot is that of these blocks, and its feedback values are theirs in each cycle
pub record IsSlot (slot : Slot) (blocks : List Block) : Type 0 where
  pub value : slot ≡ slot_of blocks
  pub gives : (cycle : ℕ) → flat_map (bytes_at cycle) slot.feedback.items ≡ flat_map (value_in cycle blocks) (idns_at blocks 16)

-- the state of a drive
pub record DriveState : Type 0 where
  pub address : ℕ
  pub phase : ℕ
  pub cycle : ℕ
  pub got : Bool
  pub took : Bool
  pub missed : Bool
  pub writes : ℕ
  pub channel : ChannelView
  pub commands : CommandsView
  pub blocks : List Block
  pub slot : Slot

-- a count of 32 bits, which stops at its largest value
abbrev pub counted : ℕ → ℕ
counted n = min n (2 ^ 32 - 1)

-- the state is these functions of the moments
pub record KeepsMoments (v : DriveState) (d : DriveView) (rate : ℕ) (past : List Moment) : Type 0 where
  pub address_is : v.address ≡ d.address
  pub phase_is : v.phase ≡ phase_in past
  pub cycle_is : v.cycle ≡ cycle_in past
  pub got_is : v.got ≡ has_mst past
  pub took_is : v.took ≡ has_taken past
  pub missed_is : v.missed ≡ has_missed past
  pub writes_is : v.writes ≡ counted (length (writes_in past))
  pub channel_is : ChannelStandsFor v.channel d.busy (records_in past)
  pub commands_are : CommandsStandFor v.commands (commands_in d rate past)
  pub blocks_is : v.blocks ≡ blocks_in d past
  -- what was read of the blocks is what they contain
  pub slot_is : IsSlot v.slot v.blocks
  -- the calls on the procedure commands are in order, and none is of a later cycle
  pub in_order : AreInOrder (calls_in past)
  pub order : newest_cycle (calls_in past) ≤ cycle_in past

-- The state is that after these calls, since the drive was opened with this setup, in a ring of
-- this rate.
abbrev pub DriveStandsFor : DriveState → DriveView → ℕ → List DriveCall → Type 0
DriveStandsFor v d rate h = KeepsMoments v d rate (annals d rate h)
