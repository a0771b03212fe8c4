-- The station that is replayed, and the lines of a capture passed to it. Lists of lines have their newest line first.
use Rattle.std.specs.Prelude.{◌≡◌, ℕ, ◌==◌, ◌+◌, Bool, if◌then◌else◌, List, [], ◌∷◌, length, Option, Some, None, option_map}
use Rattle.std.specs.List.{position}
use Rattle.sercos_telegram.specs.declared.layout.Kind.{Kind}
use Rattle.sercos_telegram.specs.declared.layout.Kind.TheVariants as telegram
use Rattle.sercos_step.specs.declared.request.Job.{Job}
use Rattle.sercos_block.specs.Views.{DriveView, RingView}
use Rattle.sercos_trace.specs.declared.reading.Line.{Line}
use Rattle.sercos_trace.specs.declared.reading.Line.TheVariants as line
use Rattle.sercos_seat.specs.Ring.{Known, known_of}
use Rattle.sercos_law_run.specs.Journal.Runs.{drive_at}
use Rattle.sercos_config.specs.Views.{DocumentView}
use Rattle.sercos_checking.specs.Checking.{read_as}
use Rattle.sercos_answer.specs.Lines.{lines_of}
use Rattle.sercos_check.specs.Verdicts.{IsClean}
use Rattle.sercos_replay.specs.Cycles.{Cycle, cycles_of}
use Rattle.sercos_replay.specs.Places.{PlaceView}
use Rattle.sercos_replay.specs.Differences.{drive_differs, master_differs}
use Rattle.sercos_replay.specs.Kept.{DriveReplayStandsFor, MasterReplayStandsFor}
use Rattle.sercos_replay.specs.declared.station.Replay.{Replay}
use Rattle.sercos_replay.specs.declared.station.Replay.TheVariants as replay

-- the master, with what it knows of the ring and its requests; or a drive, and the rate of the ring
pub data Station : Type 0 where
  master : Known → List Job → Station
  drive : DriveView → ℕ → Station

-- the first drive of a ring with an address
abbrev pub has : ℕ → DriveView → Bool
has address d = d.address == address

unfoldable pub drive_of : ℕ → RingView → Option Station
drive_of address r = option_map (λ index. drive (drive_at r index) r.rate) (position (has address) r.drives)

-- the station of a document with an address: the master has 0
unfoldable pub station_of : ℕ → DocumentView → Option Station
station_of address d = if address == 0 then Some (master (known_of d.setup) d.jobs) else drive_of address d.setup

-- the first place of a capture at which the station deviated from its rules
unfoldable pub station_differs : Station → List Cycle → Option PlaceView
station_differs (master s jobs) j = master_differs s jobs j
station_differs (drive d rate) j = drive_differs d rate j

-- the lines of a trace that texts are, read after these lines
unfoldable pub lines_after : List Line → List (List ℕ) → List Line
lines_after before [] = before
lines_after before (text ∷ texts) = lines_after (read_as text ∷ before) texts

-- the lines of a capture
unfoldable pub lines_read : List ℕ → List Line
lines_read text = lines_after [] (lines_of text)

-- the cycle of the MST that a line is, if it is one
unfoldable pub kind_cycle : Kind → ℕ → Option ℕ
kind_cycle telegram.Mst cycle = Some cycle
kind_cycle _ cycle = None

unfoldable pub mst_cycle : Line → Option ℕ
mst_cycle (line.Telegram cycle sent) = kind_cycle sent.kind cycle
mst_cycle _ = None

-- a replay stands for a station after these lines
abbrev pub ReplayStandsFor : Replay → Station → List Line → Type 0
ReplayStandsFor (replay.Master v) (master s jobs) lines = MasterReplayStandsFor v s jobs lines
ReplayStandsFor (replay.Drive v) (drive d rate) lines = DriveReplayStandsFor v d rate lines
ReplayStandsFor _ _ lines = ⊥

-- A replay was passed a line, which is clean after these lines. The number is that of the cycles that begin with it.
pub record IsGiven (old new : Replay) (before : List Line) (l : Line) (begun : ℕ) : Type 0 where
  pub clean : IsClean (l ∷ before)
  pub stands : (s : Station) → ReplayStandsFor old s before → ReplayStandsFor new s (l ∷ before)
  pub count : length (cycles_of (l ∷ before)) ≡ length (cycles_of before) + begun
