-- The data blocks that configure a drive's telegrams in phases 3 and 4.
use Rattle.std.specs.Prelude.{ℕ, ◌+◌, ◌*◌, ◌%◌, if◌then◌else◌, List, [], Option, Some, None, option_and_then}
use Rattle.std.specs.Int.{to_le_bytes}
use Rattle.std.specs.List.{filter_map}
use Rattle.sercos_idn.specs.declared.idn.Idn.{Idn}
use Rattle.sercos_block.specs.declared.block.Block.{Block}
use Rattle.sercos_block.specs.Blocks.{is_number, width_of, number_end, bits_in}
use Rattle.sercos_block.specs.Stores.{find_block}
use Rattle.sercos_command.specs.Checks.{number_at, carried_len, idns_at}
use Rattle.sercos_drive.specs.declared.feedback.FeedbackValue.{FeedbackValue}
use Rattle.sercos_drive.specs.declared.slot.Slot.{Slot}

-- the feedback value of a block: what an AT needs to carry its operation data, if it is a number
abbrev pub feedback_in : Block → Option FeedbackValue
feedback_in b = if is_number b.attribute then Some (record { kind = b.attribute.length; bits = bits_in b.attribute b.value; step = b.step })
    else None

-- the feedback value of an identifier number
abbrev pub feedback_of : List Block → Idn → Option FeedbackValue
feedback_of blocks idn = option_and_then feedback_in (find_block idn.raw blocks)

-- the bytes of a feedback value in a cycle
abbrev pub bytes_at : ℕ → FeedbackValue → List ℕ
bytes_at cycle v = to_le_bytes (width_of v.kind) ((v.bits + v.step * cycle) % number_end v.kind)

-- the same; no bytes without a value
abbrev pub feedback_bytes : ℕ → Option FeedbackValue → List ℕ
feedback_bytes cycle None = []
feedback_bytes cycle (Some v) = bytes_at cycle v

-- The slot of these blocks: S-0-0006 is the start of the AT, and S-0-0016 lists its values.
-- S-0-0010 is the length of the MDT, S-0-0009 the position of the record in it, and S-0-0024 lists
-- the command values after the record's two words.
abbrev pub slot_of : List Block → Slot
slot_of blocks = record {
  start = number_at blocks 6;
  mdt_len = number_at blocks 10;
  position = number_at blocks 9;
  record_len = carried_len blocks 24;
  feedback = record { items = filter_map (feedback_of blocks) (idns_at blocks 16) };
}
