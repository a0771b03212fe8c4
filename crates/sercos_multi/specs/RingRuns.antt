-- What is known of the runs whose lines are merged.
use Rattle.std.specs.Prelude.{◌≡◌, ℕ, ◌+◌, ◌<◌, ◌≤◌, true, false, List, length, Option, Some, None, Ok, slice_get}
use Rattle.std.specs.List.{All}
use Rattle.std.specs.Io.KnownBytes.{Appends}
use Rattle.sercos_config.specs.Views.{DocumentView}
use Rattle.sercos_script.specs.Cuts.{has_flip}
use Rattle.sercos_law_run.specs.Journal.Runs.{IsClear}
use Rattle.sercos_law_trace.specs.Clean.Traces.{IsCleanIfClear}
use Rattle.sercos_opened.specs.Kept.{IsScriptRun, script_run}
use Rattle.sercos_call.specs.TopCall.{ReadsWhole}
use Rattle.sercos_multi.specs.Merged.{Voice, begun, is_cycle, is_timed, merged}
use Rattle.sercos_multi.specs.Divided.{parts_of}
use Rattle.sercos_multi.specs.OwnLines.{AreTraces}
use Rattle.sercos_multi.specs.Asking.{cycles_of, cycle_fault, documents_from, first_cycle, voices_from}

-- The cycles of a document's ring, of which there is one at least, are its run, and keep all that is promised of them. If its script has
-- no flip, no arrival is unseen; if none is, its trace is clean.
pub record IsRingRun (d : DocumentView) : Type 0 where
  pub some : 1 ≤ d.setup.cycles
  pub kept : IsScriptRun d
  pub clear : has_flip d.faults ≡ false → IsClear (script_run d)
  pub clean : IsCleanIfClear d.setup (script_run d)

abbrev pub AreRuns : List DocumentView → Type 0
AreRuns documents = All IsRingRun documents

-- so it is of an input whose 2 to 8 documents aren't refused
abbrev pub RunsItsRings : List ℕ → Type 0
RunsItsRings bytes = 2 ≤ length (parts_of bytes) → length (parts_of bytes) ≤ 8 → (documents : List DocumentView) →
    documents_from 1 (parts_of bytes) ≡ Ok documents → AreRuns documents

-- Of any two rings: a moment at which one begins a cycle, and which lies in a cycle of the other that is commanded phase 3 or 4, is the
-- one at which that cycle begins. So the MSTs of both end together then.
abbrev pub BeginTogether : ℕ → List Voice → Type 0
BeginTogether time voices = (i k : ℕ) (u v : Voice) (moment other : ℕ) → slice_get voices i ≡ Some u → slice_get voices k ≡ Some v →
    is_cycle (begun time moment u) ≡ true → is_timed (begun time other v) ≡ true → other ≤ moment → moment < other + time → other ≡ moment

-- The source was read to its end as the documents of 2 to 8 rings with one cycle time. What was appended is the merged text of the one
-- run of each of these rings, for its number of cycles, under its script. The cycles of each keep all that is promised of them, up to
-- its own first arrival that is unseen; its lines, without their number, are the trace of its document alone, which `check` finds clean
-- if nothing was unseen in the run of the ring. Where cycles of two rings that are commanded phase 3 or 4 meet, their MSTs end together.
pub record RingsMerged (left left' held held' : Option (List ℕ)) : Type 0 where
  pub bytes : List ℕ
  pub read : ReadsWhole left left' bytes
  pub says : List DocumentView
  pub documents : documents_from 1 (parts_of bytes) ≡ Ok says
  pub some : 2 ≤ length says
  pub few : length says ≤ 8
  pub common : cycle_fault (cycles_of says) ≡ None
  pub runs : AreRuns says
  pub traces : AreTraces says (merged (first_cycle (cycles_of says)) (voices_from 1 says))
  pub together : BeginTogether (first_cycle (cycles_of says)) (voices_from 1 says)
  pub written : Appends held held' (merged (first_cycle (cycles_of says)) (voices_from 1 says))
