-- The values that the master writes to a drive in phase 2, and that the drive's check for phase 3 then finds nothing.
use Rattle.std.specs.Prelude.{◌≡◌, ℕ, ◌==◌, Bool, true, not, ◌&&◌, ◌||◌, if◌then◌else◌, List, [], ◌∷◌, map, Some, None, slice_get, slice_index}
use Rattle.std.specs.Int.{w16, to_le_bytes}
use Rattle.sercos_idn.specs.declared.idn.Idn.{Idn}
use Rattle.sercos_timing.specs.Views.{PlanView}
use Rattle.sercos_timing.specs.Valid.{IsValid}
use Rattle.sercos_timing.specs.Inequalities.{Fits}
use Rattle.sercos_block.specs.declared.block.Block.{Block}
use Rattle.sercos_block.specs.Blocks.{is_fixed}
use Rattle.sercos_block.specs.Rules.{blocks_fault}
use Rattle.sercos_block.specs.Stores.{store_of}
use Rattle.sercos_block.specs.Views.{DriveView, RingView}
use Rattle.sercos_block.specs.Rings.{is_ring, wishes_of, cyclic_len, at_len, record_len}
use Rattle.sercos_command.specs.Checks as checks
use Rattle.sercos_command.specs.Checks.{data_at, carried_len, list_bytes, unfit_for_phase_3}

-- the lists of invalid operation data, S-0-0021 and S-0-0022: they are fixed, and the checks alone write them
abbrev pub is_given : ℕ → Bool
is_given raw = (raw == 21) || (raw == 22)

-- What no write changes of a block: all but its operation data, and these too if the block is fixed and the checks don't write
-- it. What may change is left out.
abbrev pub kept : Block → Block
kept b = if is_fixed b && not (is_given b.idn.raw) then b else record b { value = [] }

-- The blocks are the store of a drive, regardless of what was written to it since its opening.
abbrev pub IsStoreOf : DriveView → List Block → Type 0
IsStoreOf d blocks = map kept blocks ≡ map kept (store_of d)

-- The start-up values: what the master writes to the drive at place k of the ring, each with its identifier number, in the
-- order written. They are the control unit cycle time, the cycle time, the drive's part of the plan, the telegram type, and
-- the lists of what the drive's AT and its data record carry.
abbrev pub start_up : ℕ → ℕ → PlanView → ℕ → List Idn → List Idn → List (ℕ × List ℕ)
start_up control cycle p k at mdt =
    (1, to_le_bytes w16 control)
    ∷ (2, to_le_bytes w16 cycle)
    ∷ (6, to_le_bytes w16 (slice_index p.t1 k))
    ∷ (7, to_le_bytes w16 p.t4)
    ∷ (8, to_le_bytes w16 p.t3)
    ∷ (9, to_le_bytes w16 (slice_index p.position k))
    ∷ (10, to_le_bytes w16 p.mdt_len)
    ∷ (15, to_le_bytes w16 7)
    ∷ (16, list_bytes at)
    ∷ (24, list_bytes mdt)
    ∷ (89, to_le_bytes w16 p.t2)
    ∷ []

-- the store holds each of these values as the operation data of the block with its number
abbrev pub Holds : List Block → List (ℕ × List ℕ) → Type 0
Holds blocks [] = Unit {0}
Holds blocks (v ∷ values) = (data_at blocks v.0 ≡ v.1) × Holds blocks values

-- How many bytes an identifier number adds to a telegram is defined twice: over the blocks of a store, and over a drive's own
-- blocks beside the table of built-in ones. Both agree, regardless of what was written.
abbrev pub CarryAlike : Type 0
CarryAlike = (d : DriveView) (blocks : List Block) → blocks_fault [] d.blocks ≡ None → IsStoreOf d blocks →
    (raw : ℕ) → checks.cyclic_len blocks raw ≡ cyclic_len d.blocks raw

-- So the lengths of AT and data record agree, if the store has the drive's lists.
abbrev pub AreAsLong : Type 0
AreAsLong = (d : DriveView) (blocks : List Block) → blocks_fault [] d.blocks ≡ None → IsStoreOf d blocks →
    (data_at blocks 16 ≡ list_bytes d.at → carried_len blocks 16 ≡ at_len d)
    × (data_at blocks 24 ≡ list_bytes d.mdt → carried_len blocks 24 ≡ record_len d)

-- If a drive of a ring holds the start-up values of a plan that fits the ring's requirements, its check for phase 3 finds
-- nothing.
abbrev pub PlanPassesCheck : Type 0
PlanPassesCheck = (r : RingView) (p : PlanView) (k : ℕ) (d : DriveView) (blocks : List Block) →
    is_ring r ≡ true → IsValid (wishes_of r) → Fits (wishes_of r) p → slice_get r.drives k ≡ Some d →
    IsStoreOf d blocks → Holds blocks (start_up r.control r.cycle p k d.at d.mdt) → unfit_for_phase_3 r.rate blocks ≡ []
