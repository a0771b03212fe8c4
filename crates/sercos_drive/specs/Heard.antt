-- What arrives at a drive, and what it reads of it. Each list of calls has its newest call first.
use Rattle.std.specs.Prelude.{ℕ, ◌+◌, nat_le, Bool, ◌&&◌, if◌then◌else◌, List, slice_index, Option, Some, None, is_none}
use Rattle.sercos_telegram.specs.Words.{control_of}
use Rattle.sercos_telegram.specs.Spells.{word_at}
use Rattle.sercos_telegram.specs.Faults.{mst_fault, single_fault, joint_fault}
use Rattle.sercos_block.specs.declared.block.Block.{Block}
use Rattle.sercos_command.specs.Checks.{number_at, carried_len}
use Rattle.sercos_drive.specs.declared.hearing.Told.{Told}

-- The content of the frame that arrived in the MST's time slot of a cycle, or none; that of the
-- frame in the MDT's time slot; a restart between two cycles. Each cycle of a ring has both time
-- slots, first the MST's and then the MDT's, whether anything arrives or not.
pub data DriveCall : Type 0 where
  Mst : (cycle : ℕ) (content : Option (List ℕ)) → DriveCall
  Mdt : (content : Option (List ℕ)) → DriveCall
  Restart : DriveCall

-- the phase that an MST commands; `None` if the content is not an MST
unfoldable pub mst_in : List ℕ → Option ℕ
mst_in content = if is_none (mst_fault content) then Some (slice_index content 1) else None

-- the phase that the received MST commands; `None` if no MST was received
abbrev pub mst_got : Option (List ℕ) → Option ℕ
mst_got None = None
mst_got (Some content) = mst_in content

-- the control word and the information word at a position of an MDT
abbrev pub told_at : List ℕ → ℕ → Told
told_at content position = record { control = control_of (word_at content position); info = word_at content (position + 2) }

-- in phases 1 and 2: the MDT to the one drive of this address
unfoldable pub single_in : ℕ → List ℕ → Option Told
single_in address content = if is_none (single_fault address content) then Some (told_at content 1) else None

-- Whether a record is within an MDT, by the MDT's length, its own position and its own length, in
-- bytes. Position 1 is the first byte after the address.
abbrev pub lies_within : ℕ → ℕ → ℕ → Bool
lies_within mdt_len position len = nat_le 1 position && nat_le (position + len) (mdt_len + 1)

-- the record at a position of an MDT to all drives; `None` if the content is not such an MDT, or
-- the record isn't within it
abbrev pub record_in : ℕ → ℕ → ℕ → List ℕ → Option Told
record_in mdt_len position len content =
    if lies_within mdt_len position len && is_none (joint_fault mdt_len content) then Some (told_at content position) else None

-- In phases 3 and 4: the drive's record of the MDT to all drives. S-0-0009 is its position,
-- S-0-0010 the length of the MDT, and S-0-0024 lists the command values that the record has after
-- its two words.
unfoldable pub joint_in : List Block → List ℕ → Option Told
joint_in blocks content = record_in (number_at blocks 10) (number_at blocks 9) (carried_len blocks 24) content

-- the record that the drive reads in the MDT's time slot, by its phase
abbrev pub mdt_got : ℕ → ℕ → List Block → Option (List ℕ) → Option Told
mdt_got address phase blocks None = None
mdt_got address phase blocks (Some content) = if nat_le 3 phase then joint_in blocks content else single_in address content
