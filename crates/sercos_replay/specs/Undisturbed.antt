-- The first place that differs in the capture of a run of the document. Journals have their newest cycle first.
use Rattle.std.specs.Prelude.{◌≡◌, ℕ, ◌<◌, ◌≤◌, true, List, ◌++◌, length, Some}
use Rattle.sercos_block.specs.Rings.{is_ring}
use Rattle.sercos_block.specs.Views.{RingView}
use Rattle.sercos_trace.specs.Views.{CycleView}
use Rattle.sercos_script.specs.Links.{Carry, Restarts}
use Rattle.sercos_law_run.specs.Journal.Runs.{IsRun}
use Rattle.sercos_step.specs.Steps.{AreTypedJobs}
use Rattle.sercos_law_run.specs.Typed.Typed.{AreTyped}
use Rattle.sercos_config.specs.Views.{DocumentView}
use Rattle.sercos_replay.specs.Captured.{lines_of, telegrams, NeverDisturbed}
use Rattle.sercos_replay.specs.Places.{PlaceView}
use Rattle.sercos_replay.specs.Stations.{Station, station_of, station_differs, lines_read}
use Rattle.sercos_replay.specs.Asking.{cycles_in}

-- A journal is a run of a document's contents, and a capture has its telegrams.
pub record IsCaptured (d : DocumentView) (carry : Carry) (restarts : Restarts) (j : List CycleView) (capture : List ℕ) : Type 0 where
  pub ring : is_ring d.setup ≡ true
  pub typed : AreTyped d.setup
  pub jobs : AreTypedJobs d.jobs
  pub run : IsRun d.setup d.jobs carry restarts j
  pub same : telegrams (lines_read capture) ≡ telegrams (lines_of j)

-- A place is in one of a run's cycles, and in none before the first disturbed one: wherever the journal is cut, if no cycle of its earlier
-- part is disturbed, the place is after that part.
pub record IsNoEarlier (r : RingView) (carry : Carry) (restarts : Restarts) (j : List CycleView) (place : PlaceView) : Type 0 where
  pub within : place.cycle < length j
  pub late : (later earlier : List CycleView) → j ≡ later ++ earlier → NeverDisturbed r carry restarts earlier →
      length earlier ≤ place.cycle

-- So is the first place that differs, for every station, over every link, regardless of losses, restarts and undetected damage.
abbrev pub CapturesDiffer : Type 0
CapturesDiffer = (address : ℕ) (d : DocumentView) (s : Station) (capture : List ℕ) (carry : Carry) (restarts : Restarts)
    (j : List CycleView) (place : PlaceView) → station_of address d ≡ Some s →
    IsCaptured d carry restarts j capture → station_differs s (cycles_in capture) ≡ Some place → IsNoEarlier d.setup carry restarts j place
