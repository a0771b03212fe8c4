-- Which words of the master's writes in phase 2 are refused, that a ring's wishes are valid, and how the checks end.
use Rattle.std.specs.Prelude.{◌≡◌, ◌↔◌, ℕ, ◌+◌, ◌*◌, ◌≤◌, ◌<◌, ◌==◌, ◌⊎◌, nat_lt, Bool, true, false, if◌then◌else◌, List, [], ◌∷◌, length, Some, None, slice_get}
use Rattle.std.specs.List.{list_any}
use Rattle.sercos_timing.specs.Views.{PlanView}
use Rattle.sercos_timing.specs.Valid.{IsValid}
use Rattle.sercos_timing.specs.Inequalities.{Fits}
use Rattle.sercos_block.specs.declared.block.Block.{Block}
use Rattle.sercos_block.specs.Rings.{is_ring, wishes_of}
use Rattle.sercos_block.specs.Rules.{blocks_fault}
use Rattle.sercos_block.specs.Stores.{find_block, store_of, IsStore}
use Rattle.sercos_block.specs.Views.{DriveView, RingView}
use Rattle.sercos_command.specs.Checks.{list_bytes, unfit_for_phase_3, unfit_for_phase_4}
use Rattle.sercos_command.specs.Settings.{ends_well}
use Rattle.sercos_service_drive.specs.Replies.{write_cause_in}
use Rattle.sercos_trace.specs.declared.events.Stop.TheVariants as stop
use Rattle.sercos_seat.specs.Agenda.{list_stop}
use Rattle.sercos_law_run.specs.Start.StartUp.{IsStoreOf, Holds, start_up}
use Rattle.sercos_law_run.specs.Start.Kept.{is_own_outside}

-- Regardless of what was written, each word of a write is refused as at opening, with the same code.
abbrev pub CausesAlike : Type 0
CausesAlike = (d : DriveView) (blocks : List Block) → IsStoreOf d blocks → (raw phase : ℕ) (last : Bool) (words : List ℕ) →
    write_cause_in (find_block raw blocks) phase last words ≡ write_cause_in (find_block raw (store_of d)) phase last words

-- The one word of the cycle time is refused exactly if it is outside the drive's limits.
abbrev pub CycleCause : Type 0
CycleCause = (d : DriveView) (blocks : List Block) (cycle : ℕ) → blocks_fault [] d.blocks ≡ None → IsStoreOf d blocks → cycle < 65536 →
    write_cause_in (find_block 2 blocks) 2 true (cycle ∷ [])
    ≡ (if nat_lt cycle d.cycle_min then Some 0x7006 else (if nat_lt d.cycle_max cycle then Some 0x7007 else None))

-- The one word of another number isn't refused.
abbrev pub is_start_number : ℕ → Bool
is_start_number raw = list_any (λ n. n == raw) (1 ∷ 6 ∷ 7 ∷ 8 ∷ 9 ∷ 10 ∷ 15 ∷ 89 ∷ [])

abbrev pub NumberHasNoCause : Type 0
NumberHasNoCause = (d : DriveView) (blocks : List Block) (raw word : ℕ) → blocks_fault [] d.blocks ≡ None → IsStoreOf d blocks →
    is_start_number raw ≡ true →
    write_cause_in (find_block raw blocks) 2 true (word ∷ []) ≡ None

-- Nor is a word of a list of m identifier numbers, at most 16. Such a write has m + 2 words: the list's length in bytes, a zero,
-- and the numbers.
abbrev pub ListHasNoCause : Type 0
ListHasNoCause = (d : DriveView) (blocks : List Block) (raw m n : ℕ) (words : List ℕ) → blocks_fault [] d.blocks ≡ None →
    IsStoreOf d blocks → ((raw == 16) ≡ true) ⊎ ((raw == 24) ≡ true) →
    m ≤ 16 → length words ≡ n → n < 2 + m → write_cause_in (find_block raw blocks) 2 (n == 1 + m) (2 * m ∷ words) ≡ None

-- A plan may be requested for a ring's input if no list of a drive has more than 16 entries.
abbrev pub RingIsValid : Type 0
RingIsValid = (r : RingView) → is_ring r ≡ true →
    ((k : ℕ) (d : DriveView) → slice_get r.drives k ≡ Some d → (length d.at ≤ 16) × (length d.mdt ≤ 16)) → IsValid (wishes_of r)

-- If a drive holds the start-up values of a plan that fits, its check for phase 3 (S-0-0127) ends well. With a cycle time within
-- the drive's limits, its check for phase 4 (S-0-0128) ends well exactly if none of its own blocks is outside its limits.
abbrev pub ChecksEndWell : Type 0
ChecksEndWell = (r : RingView) (p : PlanView) (k : ℕ) (d : DriveView) (blocks : List Block) →
    is_ring r ≡ true → IsValid (wishes_of r) → Fits (wishes_of r) p → slice_get r.drives k ≡ Some d → IsStore blocks →
    IsStoreOf d blocks → Holds blocks (start_up r.control r.cycle p k d.at d.mdt) →
    (ends_well r.rate 127 blocks ≡ true)
    × (d.cycle_min ≤ r.cycle → r.cycle ≤ d.cycle_max → (ends_well r.rate 128 blocks ≡ true) ↔ (list_any is_own_outside blocks ≡ false))

-- If the master reads the list of a check that failed, its stop has the whole list: no entry is cut off.
abbrev pub StopsWithList : Type 0
StopsWithList = (address rate : ℕ) (blocks : List Block) → IsStore blocks →
    (list_stop address 21 (list_bytes (unfit_for_phase_3 rate blocks)) ≡
    Some (stop.Check127 address (record { items = unfit_for_phase_3 rate blocks })))
    × (list_stop address 22 (list_bytes (unfit_for_phase_4 blocks)) ≡
    Some (stop.Check128 address (record { items = unfit_for_phase_4 blocks })))
