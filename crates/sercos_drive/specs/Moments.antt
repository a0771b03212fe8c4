-- The effect of each call so far, as a list of moments, the newest first, and the functions that
-- look back at it.
use Rattle.std.specs.Prelude.{ℕ, ◌==◌, nat_le, Bool, false, not, ◌&&◌, if◌then◌else◌, List, [], ◌∷◌, Option, Some, None}
use Rattle.sercos_block.specs.declared.block.Block.{Block}
use Rattle.sercos_block.specs.Views.{DriveView}
use Rattle.sercos_block.specs.Stores.{store_of}
use Rattle.sercos_command.specs.Calls.{CommandCall, Reset, CommandHistory}
use Rattle.sercos_service_drive.specs.Log.{Processed}
use Rattle.sercos_service_drive.specs.Writes.{Write, with_added, added_on, blocks_with, calls_with}

-- The MST's time slot of a cycle: whether the MST was received, and the drive's phase afterwards.
-- The MDT's time slot: whether an MDT was accepted, its record if it was processed, and the phase
-- afterwards. A restart.
pub data Moment : Type 0 where
  AtMst : (cycle : ℕ) (got : Bool) (phase : ℕ) → Moment
  AtMdt : (took : Bool) (processed : Option Processed) (phase : ℕ) → Moment
  AtRestart : Moment

-- the phase of the drive; before the first cycle it is 0
abbrev pub phase_in : List Moment → ℕ
phase_in [] = 0
phase_in (AtMst cycle got phase ∷ past) = phase
phase_in (AtMdt took processed phase ∷ past) = phase
phase_in (AtRestart ∷ past) = 0

-- the cycle of the newest MST's time slot; 0 before the first
abbrev pub cycle_in : List Moment → ℕ
cycle_in [] = 0
cycle_in (AtMst cycle got phase ∷ past) = cycle
cycle_in (AtMdt took processed phase ∷ past) = cycle_in past
cycle_in (AtRestart ∷ past) = cycle_in past

-- whether the MST was received in the newest MST's time slot; a restart clears it
abbrev pub has_mst : List Moment → Bool
has_mst [] = false
has_mst (AtMst cycle got phase ∷ past) = got
has_mst (AtMdt took processed phase ∷ past) = has_mst past
has_mst (AtRestart ∷ past) = false

-- Whether an MDT was accepted in the newest MDT's time slot; a restart clears it. Phase 0 needs no
-- case if each cycle has both time slots: in it no MDT is accepted, so the MDT's time slot of its
-- cycle clears it.
abbrev pub has_taken : List Moment → Bool
has_taken [] = false
has_taken (AtMst cycle got phase ∷ past) = has_taken past
has_taken (AtMdt took processed phase ∷ past) = took
has_taken (AtRestart ∷ past) = false

-- Whether the drive was in phase 3 or 4 in the newest MDT's time slot and accepted no MDT; a
-- restart clears it. Phase 0 needs no case: before the drive is in phase 3 again, an MDT's time
-- slot in a lower phase has cleared it.
abbrev pub has_missed : List Moment → Bool
has_missed [] = false
has_missed (AtMst cycle got phase ∷ past) = has_missed past
has_missed (AtMdt took processed phase ∷ past) = nat_le 3 (phase_in past) && not took
has_missed (AtRestart ∷ past) = false

-- the list; empty in phase 0
abbrev pub unless_phase_0 : {A : Type 0} → ℕ → List A → List A
unless_phase_0 phase xs = if phase == 0 then [] else xs

-- the records with one more, if there is one
abbrev pub with_record : Option Processed → List Processed → List Processed
with_record None h = h
with_record (Some t) h = t ∷ h

-- the records that were processed since the drive was last in phase 0
abbrev pub records_in : List Moment → List Processed
records_in [] = []
records_in (AtMst cycle got phase ∷ past) = unless_phase_0 phase (records_in past)
records_in (AtMdt took processed phase ∷ past) = unless_phase_0 phase (with_record processed (records_in past))
records_in (AtRestart ∷ past) = []

-- the write that a record adds, if there is one
abbrev pub write_in : Option Processed → List Processed → Option Write
write_in None h = None
write_in (Some t) h = added_on t h

-- the writes of operation data that took effect, through all phases and restarts
abbrev pub writes_in : List Moment → List Write
writes_in [] = []
writes_in (AtMst cycle got phase ∷ past) = writes_in past
writes_in (AtMdt took processed phase ∷ past) = with_added (write_in processed (records_in past)) (writes_in past)
writes_in (AtRestart ∷ past) = writes_in past

-- the blocks after a record
abbrev pub blocks_after : Option Processed → List Processed → List Block → List Block
blocks_after None h blocks = blocks
blocks_after (Some t) h blocks = blocks_with (added_on t h) t.commands t.blocks

-- the calls on the procedure commands after a record
abbrev pub calls_after : Option Processed → List Processed → List CommandCall → List CommandCall
calls_after None h calls = calls
calls_after (Some t) h calls = calls_with (added_on t h) t.blocks calls

-- The data blocks: those of the drive at its opening, after each write, and with the lists that the
-- checks wrote. They outlast phase 0 and restarts.
abbrev pub blocks_in : DriveView → List Moment → List Block
blocks_in d [] = store_of d
blocks_in d (AtMst cycle got phase ∷ past) = blocks_in d past
blocks_in d (AtMdt took processed phase ∷ past) = blocks_after processed (records_in past) (blocks_in d past)
blocks_in d (AtRestart ∷ past) = blocks_in d past

-- the calls, with one more reset in phase 0
abbrev pub with_reset : ℕ → List CommandCall → List CommandCall
with_reset phase calls = if phase == 0 then Reset ∷ calls else calls

-- the calls on the procedure commands: writes to commands, writes of other operation data, phase 0
-- and restarts
abbrev pub calls_in : List Moment → List CommandCall
calls_in [] = []
calls_in (AtMst cycle got phase ∷ past) = with_reset phase (calls_in past)
calls_in (AtMdt took processed phase ∷ past) = with_reset phase (calls_after processed (records_in past) (calls_in past))
calls_in (AtRestart ∷ past) = Reset ∷ calls_in past

-- the procedure commands of the drive, in a ring of this rate
abbrev pub commands_in : DriveView → ℕ → List Moment → CommandHistory
commands_in d rate past = record { rate = rate; time = d.command; calls = calls_in past }
