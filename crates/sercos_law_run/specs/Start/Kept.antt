-- What no write changes of a drive's store, which writes are refused, and what the check for phase 4 finds.
use Rattle.std.specs.Prelude.{◌≡◌, ◌↔◌, ℕ, ◌<◌, ◌≤◌, ◌==◌, nat_lt, Bool, true, false, not, ◌&&◌, if◌then◌else◌, List, [], ◌∷◌, map, length, Option, Some, None, IfSome}
use Rattle.std.specs.Int.{w16, to_le_bytes}
use Rattle.std.specs.List.{list_any, filter}
use Rattle.sercos_timing.specs.Views.{PlanView}
use Rattle.sercos_block.specs.declared.block.Block.{Block}
use Rattle.sercos_block.specs.BuiltIns.{is_built_in}
use Rattle.sercos_block.specs.Rules.{has_block, blocks_fault}
use Rattle.sercos_block.specs.Stores.{find_block, with_data, put_fault, are_ascending, store_of, IsStore}
use Rattle.sercos_block.specs.Views.{DriveView}
use Rattle.sercos_command.specs.Checks.{data_at, is_outside, unfit_for_phase_4}
use Rattle.sercos_command.specs.Calls.{CommandHistory}
use Rattle.sercos_service_drive.specs.Replies.{data_in}
use Rattle.sercos_service_drive.specs.Writes.{Write, blocks_with}
use Rattle.sercos_law_run.specs.Start.StartUp.{is_given, IsStoreOf, start_up}

-- A write that isn't refused leaves the store that of the drive. So does a check that writes its list, whatever the list is.
abbrev pub WritesKeep : Type 0
WritesKeep = (d : DriveView) (blocks : List Block) (raw phase : ℕ) (bytes : List ℕ) → are_ascending blocks ≡ true → IsStoreOf d blocks →
    (put_fault (find_block raw blocks) phase bytes ≡ None → IsStoreOf d (with_data raw bytes blocks))
    × (is_given raw ≡ true → IsStoreOf d (with_data raw bytes blocks))

-- So does all that a step on the service channel makes of the store: the write, if it isn't refused, and the list of a check that
-- it sets. And the blocks still ascend.
abbrev pub BlocksKeep : Type 0
BlocksKeep = (d : DriveView) (blocks : List Block) (w : Option Write) (c : CommandHistory) (phase : ℕ) → are_ascending blocks ≡ true →
    IsStoreOf d blocks →
    IfSome w (λ (w : Write). put_fault (find_block w.raw blocks) phase w.bytes ≡ None) →
    IsStoreOf d (blocks_with w c blocks) × (are_ascending (blocks_with w c blocks) ≡ true)

-- After a write, the block with its number has the bytes, and every other block has what it had.
abbrev pub WritesHold : Type 0
WritesHold = (blocks : List Block) (raw other : ℕ) (bytes : List ℕ) → has_block raw blocks ≡ true →
    data_at (with_data raw bytes blocks) other ≡ (if other == raw then bytes else data_at blocks other)

-- Regardless of what was written, the same writes are refused as at opening, with the same codes.
abbrev pub RefuseAlike : Type 0
RefuseAlike = (d : DriveView) (blocks : List Block) → IsStoreOf d blocks → (raw phase : ℕ) (bytes : List ℕ) →
    put_fault (find_block raw blocks) phase bytes ≡ put_fault (find_block raw (store_of d)) phase bytes

-- The cycle time is refused exactly if it is outside the drive's limits.
abbrev pub RefusesCycle : Type 0
RefusesCycle = (d : DriveView) (blocks : List Block) (cycle : ℕ) → blocks_fault [] d.blocks ≡ None → IsStoreOf d blocks → cycle < 65536 →
    put_fault (find_block 2 blocks) 2 (to_le_bytes w16 cycle)
    ≡ (if nat_lt cycle d.cycle_min then Some 0x7006 else (if nat_lt d.cycle_max cycle then Some 0x7007 else None))

-- None of the other start-up values is refused in phase 2.
abbrev pub AreTaken : List Block → List (ℕ × List ℕ) → Type 0
AreTaken blocks [] = Unit {0}
AreTaken blocks (v ∷ values) = (((v.0 == 2) ≡ false → put_fault (find_block v.0 blocks) 2 v.1 ≡ None)) × AreTaken blocks values

abbrev pub TakesStartUp : Type 0
TakesStartUp = (d : DriveView) (blocks : List Block) (control cycle k : ℕ) (p : PlanView) → blocks_fault [] d.blocks ≡ None →
    IsStoreOf d blocks →
    length d.at ≤ 16 → length d.mdt ≤ 16 → AreTaken blocks (start_up control cycle p k d.at d.mdt)

-- a block of the drive's own with operation data outside its limits
abbrev pub is_own_outside : Block → Bool
is_own_outside b = not (is_built_in b.idn.raw) && is_outside b

-- If the drive has a cycle time within its limits, its check for phase 4 names exactly these blocks.
abbrev pub NamesOwn : Type 0
NamesOwn = (d : DriveView) (blocks : List Block) (cycle : ℕ) → IsStore blocks → blocks_fault [] d.blocks ≡ None → IsStoreOf d blocks →
    data_at blocks 2 ≡ to_le_bytes w16 cycle → cycle < 65536 → d.cycle_min ≤ cycle → cycle ≤ d.cycle_max →
    unfit_for_phase_4 blocks ≡ map (λ (b : Block). b.idn) (filter is_own_outside blocks)

-- So it finds nothing iff there is none.
abbrev pub PassesForPhase4 : Type 0
PassesForPhase4 = (d : DriveView) (blocks : List Block) (cycle : ℕ) → IsStore blocks → blocks_fault [] d.blocks ≡ None →
    IsStoreOf d blocks →
    data_at blocks 2 ≡ to_le_bytes w16 cycle → cycle < 65536 → d.cycle_min ≤ cycle → cycle ≤ d.cycle_max →
    (unfit_for_phase_4 blocks ≡ []) ↔ (list_any is_own_outside blocks ≡ false)

-- A built-in block has no step. So the result of a read of its operation data doesn't depend on the cycle.
abbrev pub BuiltInIsSteady : Type 0
BuiltInIsSteady = (d : DriveView) (blocks : List Block) (raw cycle : ℕ) (b : Block) → blocks_fault [] d.blocks ≡ None → IsStoreOf d blocks →
    is_built_in raw ≡ true → find_block raw blocks ≡ Some b → data_in cycle b ≡ b.value
