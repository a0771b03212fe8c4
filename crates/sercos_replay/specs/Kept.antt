-- What a replay keeps, and the lines of a capture that it stands for. For proofs alone.
use Rattle.std.specs.Prelude.{◌≡◌, ◌⊎◌, ℕ, Bool, true, false, List, [], ◌∷◌, Option, Some, None, is_some}
use Rattle.sercos_step.specs.declared.request.Job.{Job}
use Rattle.sercos_block.specs.Views.{DriveView}
use Rattle.sercos_trace.specs.Views.{SentView}
use Rattle.sercos_trace.specs.declared.reading.Line.{Line}
use Rattle.sercos_drive.specs.Kept.{DriveStandsFor}
use Rattle.sercos_seat.specs.Ring.{Known}
use Rattle.sercos_master.specs.declared.master.AnyMaster.{AnyMaster}
use Rattle.sercos_master.specs.Annals.{Call}
use Rattle.sercos_master.specs.Any.{AnyStandsFor}
use Rattle.sercos_replay.specs.declared.drive_replay.DriveReplay.{DriveReplay}
use Rattle.sercos_replay.specs.declared.master_replay.MasterReplay.{MasterReplay}
use Rattle.sercos_replay.specs.Cycles.{Cycle, cycles_of, GoesOn}
use Rattle.sercos_replay.specs.Places.{PlaceView, if_differs, if_told}
use Rattle.sercos_replay.specs.Differences.{drive_calls, mst_calls, at_found, at_place, drive_differs, drive_tells, heard_calls, master_calls, mst_place, master_differs, master_tells}

-- THE SHAPE OF BOTH REPLAYS, over what holds while the newest cycle awaits its MDT, and what holds while no cycle is open.
abbrev pub GoesIn : (Cycle → List Cycle → Type 0) → (List Cycle → Type 0) → Option SentView → Cycle → List Cycle → Type 0
GoesIn Awaits Rests None t j = Awaits t j
GoesIn Awaits Rests (Some mdt) t j = Rests (t ∷ j)

abbrev pub Goes : (Cycle → List Cycle → Type 0) → (List Cycle → Type 0) → List Cycle → Type 0
Goes Awaits Rests [] = Rests []
Goes Awaits Rests (t ∷ j) = GoesIn Awaits Rests t.mdt t j

-- A difference was reported, and it is the first one; or none was reported, and this holds.
abbrev pub ToldOr : Bool → PlaceView → Option PlaceView → Type 0 → Type 0
ToldOr true told first Holds = first ≡ Some told
ToldOr false told first Holds = Holds

-- the difference that was reported
abbrev pub drive_kept : DriveReplay → Option PlaceView
drive_kept v = if_told v.differs v.told.value

-- A DRIVE. The newest cycle has no MDT yet: the drive got its MST, and whether it has its AT is kept.
pub record DriveAwaits (v : DriveReplay) (d : DriveView) (rate : ℕ) (t : Cycle) (j : List Cycle) : Type 0 where
  pub address_is : v.address ≡ d.address
  pub rate_is : v.rate ≡ rate
  pub cycle_is : v.cycle ≡ t.cycle
  pub open_is : v.is_open ≡ true
  pub mdt_is : t.mdt ≡ None
  pub found_is : v.found ≡ is_some (at_found d t)
  pub stands : DriveStandsFor v.drive d rate (mst_calls t j)
  pub before : drive_differs d rate j ≡ None
  pub agrees : v.found ≡ true → if_differs (at_place d rate t j) ≡ None

-- The place of its AT is passed, and compared: only the MDT's place is left.
pub record DriveHasPassed (v : DriveReplay) (d : DriveView) (rate : ℕ) (t : Cycle) (j : List Cycle) : Type 0 where
  pub address_is : v.address ≡ d.address
  pub rate_is : v.rate ≡ rate
  pub stands : DriveStandsFor v.drive d rate (mst_calls t j)
  pub before : drive_differs d rate j ≡ None
  pub place : if_differs (at_place d rate t j) ≡ drive_kept v

-- No cycle is open: the drive got all of these cycles, and in none of them it differs.
pub record DriveRests (v : DriveReplay) (d : DriveView) (rate : ℕ) (j : List Cycle) : Type 0 where
  pub address_is : v.address ≡ d.address
  pub rate_is : v.rate ≡ rate
  pub open_is : v.is_open ≡ false
  pub stands : DriveStandsFor v.drive d rate (drive_calls j)
  pub before : drive_differs d rate j ≡ None

abbrev pub DriveGoes : DriveReplay → DriveView → ℕ → List Cycle → Type 0
DriveGoes v d rate j = Goes (DriveAwaits v d rate) (DriveRests v d rate) j

abbrev pub DriveStandsIn : DriveReplay → DriveView → ℕ → List Cycle → Type 0
DriveStandsIn v d rate j = ToldOr v.differs v.told.value (drive_tells d rate j) (DriveGoes v d rate j)

-- all cycles are closed, the newest one too
abbrev pub DriveEndsIn : DriveReplay → DriveView → ℕ → List Cycle → Type 0
DriveEndsIn v d rate j = ToldOr v.differs v.told.value (drive_differs d rate j) (DriveRests v d rate j)

-- The replay stands for these lines, the newest first; and it has finished after them.
abbrev pub DriveReplayStandsFor : DriveReplay → DriveView → ℕ → List Line → Type 0
DriveReplayStandsFor v d rate lines = DriveStandsIn v d rate (cycles_of lines)

abbrev pub DriveReplayHasFinished : DriveReplay → DriveView → ℕ → List Line → Type 0
DriveReplayHasFinished v d rate lines = DriveEndsIn v d rate (cycles_of lines)

-- after a line, and after the end
pub record DriveAfterLine (old : DriveReplay) (l : Line) (new : DriveReplay) : Type 0 where
  pub stands : (d : DriveView) (rate : ℕ) (lines : List Line) → DriveReplayStandsFor old d rate lines → GoesOn lines l →
      DriveReplayStandsFor new d rate (l ∷ lines)

pub record DriveAfterEnd (old new : DriveReplay) : Type 0 where
  pub finished : (d : DriveView) (rate : ℕ) (lines : List Line) →
      (DriveReplayStandsFor old d rate lines ⊎ DriveReplayHasFinished old d rate lines) →
      DriveReplayHasFinished new d rate lines

-- THE MASTER is there, and stands for its calls.
abbrev pub HasMaster : Option AnyMaster → Known → List Job → List Call → Type 0
HasMaster None s jobs h = ⊥
HasMaster (Some master) s jobs h = AnyStandsFor master s jobs h

-- the difference that was reported
abbrev pub master_kept : MasterReplay → Option PlaceView
master_kept v = if_told v.differs v.told.value

-- The newest cycle has no MDT yet: the master received its MST, which is as it sent it, and the ATs so far.
pub record MasterAwaits (v : MasterReplay) (s : Known) (jobs : List Job) (t : Cycle) (j : List Cycle) : Type 0 where
  pub rate_is : v.rate ≡ s.rate
  pub cycle_is : v.cycle ≡ t.cycle
  pub open_is : v.is_open ≡ true
  pub mdt_is : t.mdt ≡ None
  pub stands : HasMaster v.master s jobs (heard_calls t (master_calls j))
  pub before : master_differs s jobs j ≡ None
  pub agrees : if_differs (mst_place s jobs t j) ≡ None

-- No cycle is open: the master went through all of these cycles, and in none of them it differs.
pub record MasterRests (v : MasterReplay) (s : Known) (jobs : List Job) (j : List Cycle) : Type 0 where
  pub rate_is : v.rate ≡ s.rate
  pub open_is : v.is_open ≡ false
  pub stands : HasMaster v.master s jobs (master_calls j)
  pub before : master_differs s jobs j ≡ None

abbrev pub MasterGoes : MasterReplay → Known → List Job → List Cycle → Type 0
MasterGoes v s jobs j = Goes (MasterAwaits v s jobs) (MasterRests v s jobs) j

abbrev pub MasterStandsIn : MasterReplay → Known → List Job → List Cycle → Type 0
MasterStandsIn v s jobs j = ToldOr v.differs v.told.value (master_tells s jobs j) (MasterGoes v s jobs j)

-- all cycles are closed, the newest one too
abbrev pub MasterEndsIn : MasterReplay → Known → List Job → List Cycle → Type 0
MasterEndsIn v s jobs j = ToldOr v.differs v.told.value (master_differs s jobs j) (MasterRests v s jobs j)

-- The replay stands for these lines, the newest first; and it has finished after them.
abbrev pub MasterReplayStandsFor : MasterReplay → Known → List Job → List Line → Type 0
MasterReplayStandsFor v s jobs lines = MasterStandsIn v s jobs (cycles_of lines)

abbrev pub MasterReplayHasFinished : MasterReplay → Known → List Job → List Line → Type 0
MasterReplayHasFinished v s jobs lines = MasterEndsIn v s jobs (cycles_of lines)

-- after a line, and after the end
pub record MasterAfterLine (old : MasterReplay) (l : Line) (new : MasterReplay) : Type 0 where
  pub stands : (s : Known) (jobs : List Job) (lines : List Line) → MasterReplayStandsFor old s jobs lines →
      MasterReplayStandsFor new s jobs (l ∷ lines)

pub record MasterAfterEnd (old new : MasterReplay) : Type 0 where
  pub finished : (s : Known) (jobs : List Job) (lines : List Line) →
      (MasterReplayStandsFor old s jobs lines ⊎ MasterReplayHasFinished old s jobs lines) →
      MasterReplayHasFinished new s jobs lines
