-- The trace of a run as a capture. Journals have their newest cycle first.
use Rattle.std.specs.Prelude.{◌≡◌, ℕ, ◌≤◌, true, List, length, reverse, Some}
use Rattle.std.specs.List.{All}
use Rattle.sercos_model.specs.Bits.{AreBytes}
use Rattle.sercos_text.specs.Templates.{IsSmall}
use Rattle.sercos_timing.specs.Views.{WishesView}
use Rattle.sercos_block.specs.Rings.{is_ring, wishes_of}
use Rattle.sercos_trace.specs.Views.{SentView, CycleView}
use Rattle.sercos_trace.specs.declared.record.Totals.{Totals}
use Rattle.sercos_trace.specs.Texts.{trace_of}
use Rattle.sercos_script.specs.Links.{Carry, Restarts}
use Rattle.sercos_law_run.specs.Journal.Runs.{IsRun}
use Rattle.sercos_step.specs.Steps.{AreTypedJobs}
use Rattle.sercos_law_run.specs.Typed.Typed.{AreTyped}
use Rattle.sercos_config.specs.Views.{DocumentView}
use Rattle.sercos_replay.specs.Captured.{lines_of, telegrams}
use Rattle.sercos_replay.specs.Places.{PlaceView}
use Rattle.sercos_replay.specs.Stations.{Station, station_of, station_differs, lines_read}
use Rattle.sercos_replay.specs.Asking.{cycles_in}
use Rattle.sercos_replay.specs.Undisturbed.{IsNoEarlier}

-- The numbers of a telegram and of its cycle fit the fields of its line.
pub record FitsLine (cycle : ℕ) (s : SentView) : Type 0 where
  pub number : cycle ≤ 4294967295
  pub start : IsSmall s.start
  pub bits : s.bits ≤ 4294967295
  pub bytes : AreBytes s.content
  pub few : length s.content ≤ 2048

abbrev pub FitLines : List CycleView → Type 0
FitLines j = All (λ (t : CycleView). All (FitsLine t.cycle) t.sent) j

-- The trace of a journal is read back as the telegrams of its cycles, regardless of its other
-- lines.
abbrev pub ReadsTraces : Type 0
ReadsTraces = (w : WishesView) (j : List CycleView) (t : Totals) → FitLines j →
    telegrams (lines_read (trace_of w (reverse j) t)) ≡ telegrams (lines_of j)

-- A journal is a run of a document's contents, and the numbers of its telegrams fit their lines.
pub record IsTraced (d : DocumentView) (carry : Carry) (restarts : Restarts) (j : List CycleView) : Type 0 where
  pub ring : is_ring d.setup ≡ true
  pub typed : AreTyped d.setup
  pub jobs : AreTypedJobs d.jobs
  pub run : IsRun d.setup d.jobs carry restarts j
  pub fit : FitLines j

-- The first place that differs in the trace of such a run is in no cycle before the first disturbed one, for every station.
abbrev pub TracesDiffer : Type 0
TracesDiffer = (address : ℕ) (d : DocumentView) (s : Station) (carry : Carry) (restarts : Restarts) (j : List CycleView) (t : Totals)
    (place : PlaceView) → station_of address d ≡ Some s →
    IsTraced d carry restarts j → station_differs s (cycles_in (trace_of (wishes_of d.setup) (reverse j) t)) ≡ Some place →
    IsNoEarlier d.setup carry restarts j place
