-- The AT that a drive sends.
use Rattle.std.specs.Prelude.{ℕ, nat_le, Bool, ◌&&◌, ◌||◌, if◌then◌else◌, List, [], ◌∷◌, Option, Some, None, option_and_then, unwrap_or}
use Rattle.std.specs.List.{flat_map}
use Rattle.sercos_idn.specs.declared.idn.Idn.{Idn}
use Rattle.sercos_telegram.specs.Words.{status_word, status_rest_low, status_rest}
use Rattle.sercos_telegram.specs.Spells.{fields}
use Rattle.sercos_timing.specs.Limits.{early_at}
use Rattle.sercos_block.specs.declared.block.Block.{Block}
use Rattle.sercos_block.specs.Blocks.{is_number}
use Rattle.sercos_block.specs.Views.{DriveView}
use Rattle.sercos_block.specs.Stores.{find_block}
use Rattle.sercos_command.specs.Checks.{number_at, idns_at}
use Rattle.sercos_service_drive.specs.Replies.{data_in}
use Rattle.sercos_service_drive.specs.Says.{Shown, channel_says}
use Rattle.sercos_drive.specs.Heard.{DriveCall}
use Rattle.sercos_drive.specs.Moments.{Moment, phase_in, cycle_in, has_mst, has_taken, records_in, blocks_in, commands_in}
use Rattle.sercos_drive.specs.Annals.{annals}

-- the status word with these bits; all other bits are 0
abbrev pub shown_word : Shown → ℕ
shown_word s = status_word (record {
  ahs = s.ahs;
  busy = s.busy;
  error = s.error;
  change = s.change;
  cyclic = 0;
  cyclic_low = status_rest_low 0;
  cyclic_apart = status_rest 0;
})

-- the bytes of a feedback value: the operation data in a cycle, if it is a number
abbrev pub bytes_in_cycle : ℕ → Block → Option (List ℕ)
bytes_in_cycle cycle b = if is_number b.attribute then Some (data_in cycle b) else None

-- the bytes that an identifier number adds to the AT of a cycle
unfoldable pub value_in : ℕ → List Block → Idn → List ℕ
value_in cycle blocks idn = unwrap_or (option_and_then (bytes_in_cycle cycle) (find_block idn.raw blocks)) []

-- the bytes of the values of an AT: in phases 3 and 4 those of the numbers that S-0-0016 lists
abbrev pub values_in : ℕ → ℕ → List Block → List ℕ
values_in cycle phase blocks = if nat_le 3 phase then flat_map (value_in cycle blocks) (idns_at blocks 16) else []

-- the start of the AT, in microseconds after the MST's end: 300 in phases 1 and 2, S-0-0006 in
-- phases 3 and 4
abbrev pub start_in : ℕ → List Block → ℕ
start_in phase blocks = if nat_le 3 phase then number_at blocks 6 else early_at

-- Whether an AT is sent: this cycle's MST was received, and in phases 1 and 2 an MDT was accepted
-- in the cycle before.
abbrev pub sends : List Moment → Bool
sends past = has_mst past && (nat_le 3 (phase_in past) || (nat_le 1 (phase_in past) && has_taken past))

-- an AT: its start in microseconds after the MST's end, and its content
pub record Said : Type 0 where
  pub start : ℕ
  pub content : List ℕ

-- the AT of a drive in a cycle and a phase
abbrev pub said : ℕ → ℕ → ℕ → List Block → Shown → Said
said address cycle phase blocks s = record {
  start = start_in phase blocks;
  content = address ∷ fields (shown_word s) s.word (values_in cycle phase blocks);
}

-- the AT of a drive after these moments; `None` if it sends none
abbrev pub said_in : DriveView → ℕ → List Moment → Option Said
said_in d rate past =
    if sends past
    then Some (said d.address (cycle_in past) (phase_in past) (blocks_in d past)
    (channel_says d.busy (cycle_in past) (commands_in d rate past) (records_in past)))
    else None

-- the AT of a drive after these calls; `None` if it sends none
abbrev pub drive_says : DriveView → ℕ → List DriveCall → Option Said
drive_says d rate h = said_in d rate (annals d rate h)
