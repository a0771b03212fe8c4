-- The replay of one of two kinds of stations.
use Rattle.std.proofs.Common.{◌≡◌, ◌⊎◌, inl, ℕ, List, ◌∷◌, Option}
use Rattle.sercos_step.specs.declared.request.Job.{Job}
use Rattle.sercos_block.specs.Views.{DriveView}
use Rattle.sercos_trace.specs.declared.reading.Line.{Line}
use Rattle.sercos_seat.specs.Ring.{Known}
use Rattle.sercos_replay.specs.declared.drive_replay.DriveReplay.{DriveReplay}
use Rattle.sercos_replay.specs.declared.master_replay.MasterReplay.{MasterReplay}
use Rattle.sercos_replay.specs.Cycles.{cycles_of, GoesOn}
use Rattle.sercos_replay.specs.Places.{PlaceView}
use Rattle.sercos_replay.specs.Differences.{drive_differs, master_differs}
use Rattle.sercos_replay.specs.Kept.{DriveReplayStandsFor, DriveReplayHasFinished, DriveAfterLine, MasterReplayStandsFor, MasterReplayHasFinished, MasterAfterLine}
use Rattle.sercos_replay.specs.declared.station.Replay.TheVariants as replay
use Rattle.sercos_replay.specs.Stations.{Station, station_differs, ReplayStandsFor}
use Rattle.sercos_replay.specs.Stations.Station.{master, drive}

pub master_given : (old new : MasterReplay) (l : Line) → MasterAfterLine old l new → (s : Station) (before : List Line) → ReplayStandsFor (replay.Master old) s before → GoesOn before l → ReplayStandsFor (replay.Master new) s (l ∷ before)
master_given old new l after (master s jobs) before stands goes = after.stands s jobs before stands
master_given old new l after (drive d rate) before stands goes = absurd stands

pub drive_given : (old new : DriveReplay) (l : Line) → DriveAfterLine old l new → (s : Station) (before : List Line) → ReplayStandsFor (replay.Drive old) s before → GoesOn before l → ReplayStandsFor (replay.Drive new) s (l ∷ before)
drive_given old new l after (master s jobs) before stands goes = absurd stands
drive_given old new l after (drive d rate) before stands goes = after.stands d rate before stands goes

pub master_told : (v : MasterReplay) (told : Option PlaceView)
    → ((s : Known) (jobs : List Job) (lines : List Line) → (MasterReplayStandsFor v s jobs lines ⊎ MasterReplayHasFinished v s jobs lines) → told ≡ master_differs s jobs (cycles_of lines))
    → (s : Station) (lines : List Line) → ReplayStandsFor (replay.Master v) s lines → told ≡ station_differs s (cycles_of lines)
unfolding station_differs
master_told v told law (master s jobs) lines stands = law s jobs lines (inl stands)
master_told v told law (drive d rate) lines stands = absurd stands

pub drive_told : (v : DriveReplay) (told : Option PlaceView)
    → ((d : DriveView) (rate : ℕ) (lines : List Line) → (DriveReplayStandsFor v d rate lines ⊎ DriveReplayHasFinished v d rate lines) → told ≡ drive_differs d rate (cycles_of lines))
    → (s : Station) (lines : List Line) → ReplayStandsFor (replay.Drive v) s lines → told ≡ station_differs s (cycles_of lines)
unfolding station_differs
drive_told v told law (master s jobs) lines stands = absurd stands
drive_told v told law (drive d rate) lines stands = law d rate lines (inl stands)
