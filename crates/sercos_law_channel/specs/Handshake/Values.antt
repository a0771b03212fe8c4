-- The operation data of a drive's blocks, as the writes of a run leave it. Each list has its newest item first.
use Rattle.std.specs.Prelude.{◌≡◌, ℕ, ◌≤◌, ◌==◌, Bool, true, not, ◌&&◌, if◌then◌else◌, List, [], ◌∷◌, ◌++◌, Option, Some, None, unwrap_or}
use Rattle.std.specs.List.{list_all}
use Rattle.sercos_idn.specs.declared.idn.Idn.{Idn}
use Rattle.sercos_idn.specs.Elements.{data_element}
use Rattle.sercos_step.specs.declared.request.Request.TheVariants as request
use Rattle.sercos_step.specs.declared.request.Outcome.TheVariants as outcome
use Rattle.sercos_step.specs.Steps.{outcome_of}
use Rattle.sercos_block.specs.declared.block.Block.{Block}
use Rattle.sercos_block.specs.Blocks.{is_fixed, is_protected}
use Rattle.sercos_block.specs.Stores.{find_block}
use Rattle.sercos_command.specs.Checks.{data_at}
use Rattle.sercos_service_drive.specs.Writes.{Write, AreAlike, blocks_with}
use Rattle.sercos_service_master.specs.Begun.{Begun}
use Rattle.sercos_law_channel.specs.Handshake.Transfers.{stored}
use Rattle.sercos_law_channel.specs.Handshake.Views.{View, processed_in, kept_in}
use Rattle.sercos_law_channel.specs.Handshake.Epochs.{epoch_begun}
use Rattle.sercos_law_channel.specs.Handshake.Runs.{IsRun}
use Rattle.sercos_law_channel.specs.Handshake.WholeRun.{write_of, all_writes, AreSound, AreSmall}
use Rattle.sercos_law_channel.specs.Handshake.Exact.{Given, given_by}

-- the bytes of the newest write to an identifier number
abbrev pub newest_to : ℕ → List Write → Option (List ℕ)
newest_to raw [] = None
newest_to raw (w ∷ writes) = if w.raw == raw then Some w.bytes else newest_to raw writes

-- the blocks after a run, of a drive that had these before its first cycle
abbrev pub store_in : List Block → List View → List Block
store_in blocks [] = blocks
store_in blocks (v ∷ past) = blocks_with (write_of (processed_in v past) (kept_in v past)) v.commands (store_in blocks past)

-- none of the two lists that the checks write
abbrev pub is_plain : ℕ → Bool
is_plain raw = not (raw == 21) && not (raw == 22)

-- A block holds what was written to it last, and its first value if nothing was.
abbrev pub HoldsNewest : Type 0
HoldsNewest = (blocks : List Block) (past : List View) (raw : ℕ) (b : Block) → is_plain raw ≡ true → find_block raw blocks ≡ Some b →
    data_at (store_in blocks past) raw ≡ unwrap_or (newest_to raw (all_writes past)) b.value

-- In a cycle commanded a phase in which a block is write protected, nothing is written to it.
abbrev pub StaysProtected : Type 0
StaysProtected = (blocks : List Block) (v : View) (past : List View) (raw : ℕ) (b : Block) → find_block raw blocks ≡ Some b →
    AreAlike v.blocks blocks → is_protected b.attribute v.phase ≡ true →
    newest_to raw (all_writes (v ∷ past)) ≡ newest_to raw (all_writes past)

-- In a cycle commanded 0 or 1 nothing is written at all.
abbrev pub StaysQuiet : Type 0
StaysQuiet = (v : View) (past : List View) → v.phase ≤ 1 → all_writes (v ∷ past) ≡ all_writes past

-- A fixed block is never written.
abbrev pub StaysFixed : Type 0
StaysFixed = (blocks : List Block) (past : List View) (raw : ℕ) (b : Block) → AreSound blocks past → find_block raw blocks ≡ Some b →
    is_fixed b ≡ true → newest_to raw (all_writes past) ≡ None

-- these requests write nothing to an identifier number
abbrev pub GiveElsewhere : ℕ → List Block → List Begun → Type 0
GiveElsewhere raw blocks [] = Unit {0}
GiveElsewhere raw blocks (b ∷ begun) = GiveElsewhere raw blocks begun ×
    (list_all (λ (g : Given). not (g.raw == raw)) (given_by blocks b.request) ≡ true)

-- What a complete write of this epoch wrote is the newest write to its block, as long as no later request writes to it: whether
-- or not the drive has fallen or restarted since.
abbrev pub StaysWritten : ℕ → Type 0
StaysWritten busy = (blocks : List Block) (past : List View) (newer older : List Begun) (b : Begun) (idn : Idn) (bytes whole : List ℕ)
    (block : Block) → AreSmall blocks → IsRun busy past → AreSound blocks past →
    epoch_begun past ≡ newer ++ b ∷ older → b.request ≡ request.Write idn data_element bytes →
    outcome_of b.request b.answers ≡ Some (outcome.Complete whole) → find_block idn.raw blocks ≡ Some block →
    GiveElsewhere idn.raw blocks newer →
    newest_to idn.raw (all_writes past) ≡ Some (stored block bytes)
