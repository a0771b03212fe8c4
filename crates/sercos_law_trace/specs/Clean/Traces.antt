-- The trace of a run is a clean capture. Journals have their newest cycle first.
use Rattle.std.specs.Prelude.{◌≡◌, ◌≤◌, List, length, reverse, None}
use Rattle.sercos_step.specs.declared.request.Job.{Job}
use Rattle.sercos_timing.specs.Views.{WishesView}
use Rattle.sercos_block.specs.Rings.{wishes_of}
use Rattle.sercos_block.specs.Views.{RingView}
use Rattle.sercos_trace.specs.Views.{CycleView}
use Rattle.sercos_trace.specs.declared.record.Totals.{Totals}
use Rattle.sercos_trace.specs.Texts.{trace_of}
use Rattle.sercos_checking.specs.declared.verdict.Verdict.TheVariants.{Clean}
use Rattle.sercos_checking.specs.Checking.{verdict_of}
use Rattle.sercos_answer.specs.Lines.{lines_of}
use Rattle.sercos_script.specs.Links.{Carry, Restarts}
use Rattle.sercos_law_run.specs.Journal.Runs.{IsRun, IsClear}
use Rattle.sercos_law_run.specs.Held.Opened.{IsOpened}
use Rattle.sercos_law_run.specs.Totals.Totals.{totals_of}
use Rattle.sercos_replay.specs.Replaying.{late_start}
use Rattle.sercos_law_trace.specs.Clean.Fields.{FitOthers, FitReports}

-- `check` finds it clean, and it begins with cycle 0.
pub record IsCleanTrace (w : WishesView) (j : List CycleView) (t : Totals) : Type 0 where
  pub clean : verdict_of (trace_of w (reverse j) t) ≡ Clean (length (lines_of (trace_of w (reverse j) t)))
  pub starts : late_start (trace_of w (reverse j) t) ≡ None

-- So it is in every run in which nothing was unseen, if the numbers of its moves, its events and its totals fit their fields ..
abbrev pub TracesAreClean : Type 0
TracesAreClean = (r : RingView) (jobs : List Job) (carry : Carry) (restarts : Restarts) (j : List CycleView) (t : Totals) →
    IsOpened r jobs → IsRun r jobs carry restarts j → IsClear j → length j ≤ 4294967296
    → FitOthers (wishes_of r) j t → IsCleanTrace (wishes_of r) j t

-- .. and in a run of at most 50,000 cycles they do, if those of the outcomes of requests and of the stops do ..
abbrev pub RunsFitOthers : Type 0
RunsFitOthers = (r : RingView) (jobs : List Job) (carry : Carry) (restarts : Restarts) (j : List CycleView) → IsOpened r jobs →
    IsRun r jobs carry restarts j → IsClear j → length j ≤ 50000 → FitReports j
    → FitOthers (wishes_of r) j (totals_of (reverse j))

-- .. which holds if there are at most 65,535 requests.
abbrev pub RunsFitReports : Type 0
RunsFitReports = (r : RingView) (jobs : List Job) (carry : Carry) (restarts : Restarts) (j : List CycleView) → IsOpened r jobs →
    length jobs ≤ 65535 → IsRun r jobs carry restarts j → IsClear j → length j ≤ 4294967296 → FitReports j

-- Altogether: the trace of every run of at most 50,000 cycles in which nothing was unseen is clean, and begins with cycle 0.
abbrev pub RunsAreClean : Type 0
RunsAreClean = (r : RingView) (jobs : List Job) (carry : Carry) (restarts : Restarts) (j : List CycleView) → IsOpened r jobs →
    length jobs ≤ 65535 → IsRun r jobs carry restarts j → IsClear j → length j ≤ 50000
    → IsCleanTrace (wishes_of r) j (totals_of (reverse j))

-- If nothing was unseen in a journal of a ring, the text that `run` writes of it is clean: `check` finds no fault and no violation in it,
-- read as its whole input, and as many lines as the text has. This holds of a text of any length; the command `check` takes at most
-- 1,048,576 bytes.
abbrev pub IsCleanIfClear : RingView → List CycleView → Type 0
IsCleanIfClear r j = IsClear j → IsCleanTrace (wishes_of r) j (totals_of (reverse j))
