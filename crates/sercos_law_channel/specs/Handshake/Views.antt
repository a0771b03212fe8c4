-- What happens to one drive in a cycle, how its phase moves, and which records it keeps. Each list has its newest item first.
use Rattle.std.specs.Prelude.{ℕ, ◌+◌, ◌==◌, nat_le, Bool, false, not, ◌&&◌, ◌||◌, if◌then◌else◌, List, [], ◌∷◌, length, Option, Some, None, is_some}
use Rattle.sercos_telegram.specs.declared.words.Status.{Status}
use Rattle.sercos_step.specs.declared.request.Request.{Request}
use Rattle.sercos_block.specs.declared.block.Block.{Block}
use Rattle.sercos_command.specs.Calls.{CommandHistory}
use Rattle.sercos_service_drive.specs.Log.{Processed}
use Rattle.sercos_service_master.specs.Begun.{Said}

-- what the master's channel received of the drive's AT
pub record Heard : Type 0 where
  pub status : Status
  pub word : ℕ

-- A cycle as one drive and its channel see it, in the order of the cycle.
pub record View : Type 0 where
  -- the phase that the master commands
  pub phase : ℕ
  -- whether the master and the drive restart, before the MST
  pub master_restarts : Bool
  pub drive_restarts : Bool
  -- whether the drive gets the MST, and whether it returns to the master as it was sent
  pub mst_comes : Bool
  pub whole : Bool
  -- whether the drive's check for the commanded phase, 3 or 4, counts as passed
  pub checked : Bool
  -- its procedure commands at its AT, and what the master receives of that AT: nothing if none was sent, or it was lost
  pub showing : CommandHistory
  pub heard : Option Heard
  -- the request that the master begins
  pub begins : Option Request
  -- the record for the drive in the MDT that the master sends, and whether it arrives
  pub sent : Option Said
  pub mdt_comes : Bool
  -- the drive's blocks and procedure commands when it arrives
  pub blocks : List Block
  pub commands : CommandHistory
  -- whether the master falls at the end of the cycle, or rises to the next phase
  pub falls : Bool
  pub rises : Bool

-- The phase of the drive.

-- What a cycle leaves of it: whether the drive got the MST; whether it was in phase 3 or 4 and took no MDT; and its phase.
pub record Standing : Type 0 where
  pub got_mst : Bool
  pub missed_mdt : Bool
  pub ended : ℕ

-- before the first cycle, and after a restart
abbrev pub afresh : Standing
afresh = record { got_mst = false; missed_mdt = false; ended = 0 }

abbrev pub before_mst : View → Standing → Standing
before_mst v f = if v.drive_restarts then afresh else f

-- The phase after an MST of phase p, from phase q. The drive stays in p. From the phase below it goes to 1 and to 2, and to 3
-- or 4 if the check for that phase is passed. In all other cases it goes to 0.
abbrev pub moved : Bool → ℕ → ℕ → ℕ
moved checked p q = if p == q then p else (if (p == q + 1) && (nat_le p 2 || checked) then p else 0)

-- The phase of the drive after the MST's place. Without the MST it stays where it is, but goes to 0 if it didn't get that of
-- the cycle before either.
abbrev pub stood_from : View → Standing → ℕ
stood_from v f = if v.mst_comes then moved v.checked v.phase f.ended else (if f.got_mst then f.ended else 0)

abbrev pub stood_in : View → Standing → ℕ
stood_in v f = stood_from v (before_mst v f)

-- the record that arrives at it
abbrev pub got_in : View → Option Said
got_in v = if v.mdt_comes then v.sent else None

-- it takes an MDT that arrives if it got the MST and isn't in phase 0
abbrev pub takes_in : View → ℕ → Bool
takes_in v stood = v.mst_comes && (nat_le 1 stood && is_some (got_in v))

-- at the end of the cycle: from phase 3 or 4 it is in 0 after the second cycle in a row without an MDT
abbrev pub standing_after : View → ℕ → Standing → Standing
standing_after v stood f = record {
  got_mst = v.mst_comes;
  missed_mdt = nat_le 3 stood && not (takes_in v stood);
  ended = if nat_le 3 stood && (not (takes_in v stood) && f.missed_mdt) then 0 else stood;
}

abbrev pub standing : List View → Standing
standing [] = afresh
standing (v ∷ past) = standing_after v (stood_in v (standing past)) (before_mst v (standing past))

-- The records that the drive processes: those that arrive in phases 2 to 4, if it got the MST. The number of a cycle is that
-- of the cycles before it.

abbrev pub record_in : View → ℕ → ℕ → Said → Processed
record_in v cycle stood s = record { cycle = cycle; phase = stood; mhs = s.mhs; step = s.step; blocks = v.blocks; commands = v.commands }

abbrev pub processed_of : View → ℕ → ℕ → Option Said → Option Processed
processed_of v cycle stood None = None
processed_of v cycle stood (Some s) = if v.mst_comes && nat_le 2 stood then Some (record_in v cycle stood s) else None

abbrev pub processed_in : View → List View → Option Processed
processed_in v past = processed_of v (length past) (stood_in v (standing past)) (got_in v)

abbrev pub with_record : Option Processed → List Processed → List Processed
with_record None h = h
with_record (Some t) h = t ∷ h

-- In phase 0 its channel is reset, and a restart resets it too: then it keeps no record.
abbrev pub kept_in_phase : ℕ → List Processed → List Processed
kept_in_phase phase h = if phase == 0 then [] else h

abbrev pub kept_unless : Bool → List Processed → List Processed
kept_unless restarts h = if restarts then [] else h

-- the records since the drive's reset: at the AT of a cycle, and at the end of all cycles
abbrev pub kept_by : View → ℕ → List Processed → List Processed
kept_by v stood h = kept_in_phase stood (kept_unless v.drive_restarts h)

abbrev pub since_reset : List View → List Processed
since_reset [] = []
since_reset (v ∷ past) = kept_in_phase (standing (v ∷ past)).ended
    (with_record (processed_in v past) (kept_by v (stood_in v (standing past)) (since_reset past)))

abbrev pub kept_in : View → List View → List Processed
kept_in v past = kept_by v (stood_in v (standing past)) (since_reset past)
