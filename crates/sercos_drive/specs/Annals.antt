-- The phase of a drive, the records that it processes, and its lasting state, as functions of the
-- calls so far.
use Rattle.std.specs.Prelude.{ℕ, ◌+◌, ◌==◌, nat_le, Bool, not, ◌&&◌, ◌||◌, if◌then◌else◌, List, [], ◌∷◌, Option, Some, None, is_some}
use Rattle.sercos_block.specs.declared.block.Block.{Block}
use Rattle.sercos_block.specs.Views.{DriveView}
use Rattle.sercos_command.specs.Calls.{is_passed}
use Rattle.sercos_service_drive.specs.Log.{Processed, Entry, processed_record}
use Rattle.sercos_service_drive.specs.Replies.{log_of}
use Rattle.sercos_service_drive.specs.Writes.{Write}
use Rattle.sercos_drive.specs.declared.hearing.Told.{Told}
use Rattle.sercos_drive.specs.Heard.{DriveCall, Mst, Mdt, Restart, mst_got, mdt_got}
use Rattle.sercos_drive.specs.Moments.{Moment, AtMst, AtMdt, AtRestart, phase_in, cycle_in, has_mst, has_missed, records_in, writes_in, blocks_in, commands_in, calls_in}

-- whether the drive may rise to this phase: up to phase 2 always, to phase 3 with check S-0-0127
-- passed, to phase 4 with check S-0-0128 passed
abbrev pub may_rise : DriveView → ℕ → ℕ → ℕ → List Moment → Bool
may_rise d rate cycle phase past =
    nat_le phase 2
    || (if phase == 3 then is_passed rate d.command 127 (calls_in past) cycle else is_passed rate d.command 128 (calls_in past) cycle)

-- The phase of the drive after the MST's time slot of a cycle. If an MST commands its phase, it
-- stays; if the MST commands the next phase and its check is passed, it rises; any other MST takes
-- it to 0. Without an MST it stays, but after the second missing MST in a row it falls to 0.
abbrev pub stands_in : DriveView → ℕ → ℕ → Option ℕ → List Moment → ℕ
stands_in d rate cycle None past = if has_mst past then phase_in past else 0
stands_in d rate cycle (Some phase) past =
    if phase == phase_in past then phase
    else (if (phase == phase_in past + 1) && may_rise d rate cycle phase past then phase else 0)

-- whether an MDT is accepted: this cycle's MST was received, the phase isn't 0, and the MDT is one
-- for the drive
abbrev pub takes : Option Told → List Moment → Bool
takes told past = has_mst past && (nat_le 1 (phase_in past) && is_some told)

-- The record that is processed: that of an accepted MDT in phases 2 to 4. In phase 1 the drive only
-- notes that it was addressed.
abbrev pub processed_in : DriveView → ℕ → Option Told → List Moment → Option Processed
processed_in d rate None past = None
processed_in d rate (Some told) past =
    if has_mst past && nat_le 2 (phase_in past)
    then Some (processed_record (cycle_in past) (phase_in past) told.control told.info (blocks_in d past) (commands_in d rate past))
    else None

-- the phase after the MDT's time slot: in phases 3 and 4 the drive falls to 0 after the second
-- cycle in a row without an accepted MDT
abbrev pub ends_in : Option Told → List Moment → ℕ
ends_in told past = if nat_le 3 (phase_in past) && (not (takes told past) && has_missed past) then 0 else phase_in past

-- the moment of the MDT's time slot
abbrev pub mdt_moment : DriveView → ℕ → Option Told → List Moment → Moment
mdt_moment d rate told past = AtMdt (takes told past) (processed_in d rate told past) (ends_in told past)

-- the moment of a call
abbrev pub moment_of : DriveView → ℕ → DriveCall → List Moment → Moment
moment_of d rate (Mst cycle content) past = AtMst cycle (is_some (mst_got content)) (stands_in d rate cycle (mst_got content) past)
moment_of d rate (Mdt content) past = mdt_moment d rate (mdt_got d.address (phase_in past) (blocks_in d past) content) past
moment_of d rate Restart past = AtRestart

-- the moments of a drive that was opened with this setup, in a ring of this rate
abbrev pub annals : DriveView → ℕ → List DriveCall → List Moment
annals d rate [] = []
annals d rate (call ∷ h) = moment_of d rate call (annals d rate h) ∷ annals d rate h

-- the phase after these calls
abbrev pub phase_at : DriveView → ℕ → List DriveCall → ℕ
phase_at d rate h = phase_in (annals d rate h)

-- the steps that were accepted since the drive was last in phase 0, with the replies to them
abbrev pub accepted_at : DriveView → ℕ → List DriveCall → List Entry
accepted_at d rate h = log_of (records_in (annals d rate h))

-- the writes of operation data that took effect since the opening
abbrev pub writes_at : DriveView → ℕ → List DriveCall → List Write
writes_at d rate h = writes_in (annals d rate h)

-- the data blocks after these calls
abbrev pub store_at : DriveView → ℕ → List DriveCall → List Block
store_at d rate h = blocks_in d (annals d rate h)

-- the cycle of the newest MST's time slot
abbrev pub cycle_at : DriveView → ℕ → List DriveCall → ℕ
cycle_at d rate h = cycle_in (annals d rate h)
