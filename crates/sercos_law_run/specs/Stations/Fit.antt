-- What a drive's data are fit for in phases 3 and 4, whatever arrived at the drive.
use Rattle.std.specs.Prelude.{◌≡◌, ℕ, ◌+◌, ◌*◌, ◌%◌, ◌≤◌, true, if◌then◌else◌, List, [], Some, None, is_none}
use Rattle.std.specs.List.{list_all}
use Rattle.sercos_model.specs.Frames.{wire_bits}
use Rattle.sercos_timing.specs.Valid.{is_cycle}
use Rattle.sercos_block.specs.declared.block.Block.{Block}
use Rattle.sercos_block.specs.Rules.{blocks_fault}
use Rattle.sercos_block.specs.Stores.{store_of, IsStore}
use Rattle.sercos_block.specs.Views.{DriveView}
use Rattle.sercos_command.specs.Checks.{number_at, idns_at, is_cyclic, carried_len, unfit_for_phase_3, unfit_for_phase_4}
use Rattle.sercos_telegram.specs.Faults.{joint_fault}
use Rattle.sercos_drive.specs.Heard.{DriveCall, lies_within, joint_in, told_at}
use Rattle.sercos_drive.specs.Annals.{phase_at, store_at}

-- A store in which the check for phase 3 finds nothing, in times and places. Numbers by the blocks: 1 control unit cycle time, 2 cycle
-- time, 3 T1min, 4 TATMT, 5 T4min, 6 T1, 7 T4, 8 T3, 9 position of the data record, 10 length of the MDT, 15 telegram type, 16 and 24
-- the lists of what AT and MDT carry, 89 T2.
pub record KeepsTimes (rate : ℕ) (blocks : List Block) : Type 0 where
  -- the AT starts no earlier than the drive can send
  pub sends : number_at blocks 3 ≤ number_at blocks 6
  -- in bits: from the end of the drive's own AT, at the longest that it can be, to the MDT there is the time that it needs
  pub turns : rate * number_at blocks 6 + wire_bits (1 + carried_len blocks 16) + rate * number_at blocks 4 ≤ rate * number_at blocks 89
  -- T3 lies in the cycle, and after T4 there is T4min until the cycle ends
  pub command : (1 ≤ number_at blocks 8) × (number_at blocks 8 ≤ number_at blocks 2)
  pub feedback : number_at blocks 7 + number_at blocks 5 ≤ number_at blocks 2
  -- the data record lies within the MDT
  pub lies : lies_within (number_at blocks 10) (number_at blocks 9) (carried_len blocks 24) ≡ true
  pub room : 4 ≤ number_at blocks 10
  -- the cycle time is one of the profile, and the control unit cycle time a positive multiple of it
  pub cycle : is_cycle (number_at blocks 2) ≡ true
  pub control : (1 ≤ number_at blocks 2) × (1 ≤ number_at blocks 1) × (number_at blocks 1 % number_at blocks 2 ≡ 0)
  -- telegrams are of type 7, and carry numbers alone
  pub kind : number_at blocks 15 ≡ 7
  pub numbers : (list_all (is_cyclic blocks) (idns_at blocks 16) ≡ true) × (list_all (is_cyclic blocks) (idns_at blocks 24) ≡ true)

-- The check for phase 3 finds nothing only in such a store.
abbrev pub EmptyKeepsTimes : Type 0
EmptyKeepsTimes = (rate : ℕ) (blocks : List Block) → unfit_for_phase_3 rate blocks ≡ [] → KeepsTimes rate blocks

-- In phases 3 and 4 the check for phase 3 finds nothing in a drive's store, so the store keeps its times, whatever the drive was handed
-- and whatever was written. The drive's own blocks break no rule, and the store that it opens with is ascending and sound.
abbrev pub FitInThree : Type 0
FitInThree = (d : DriveView) (rate : ℕ) (h : List DriveCall) → blocks_fault [] d.blocks ≡ None → IsStore (store_of d)
    → 3 ≤ phase_at d rate h →
    unfit_for_phase_3 rate (store_at d rate h) ≡ []

-- So there a drive gets its record of each joint MDT with the right length and address: it is tested whether the record lies within the
-- MDT, and it always does.
abbrev pub AlwaysLies : Type 0
AlwaysLies = (d : DriveView) (rate : ℕ) (h : List DriveCall) (content : List ℕ) → blocks_fault [] d.blocks ≡ None → IsStore (store_of d)
    → 3 ≤ phase_at d rate h →
    joint_in (store_at d rate h) content
    ≡ (if is_none (joint_fault (number_at (store_at d rate h) 10) content)
    then Some (told_at content (number_at (store_at d rate h) 9)) else None)

-- In phase 4 no block of it has operation data outside its limits.
abbrev pub FitInFour : Type 0
FitInFour = (d : DriveView) (rate : ℕ) (h : List DriveCall) → blocks_fault [] d.blocks ≡ None → IsStore (store_of d)
    → 4 ≤ phase_at d rate h →
    unfit_for_phase_4 (store_at d rate h) ≡ []
