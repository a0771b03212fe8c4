-- What is kept in the run of a ring, for its number of cycles, and of the ring of a document.
use Rattle.std.specs.Prelude.{◌≡◌, ℕ, true, List, ◌∷◌, ◌++◌, length}
use Rattle.std.specs.List.{All}
use Rattle.sercos_step.specs.declared.request.Job.{Job}
use Rattle.sercos_step.specs.Jobs.{AreJobs}
use Rattle.sercos_step.specs.Steps.{AreTypedJobs}
use Rattle.sercos_block.specs.Rings.{has_address, has_other_data, is_ring}
use Rattle.sercos_block.specs.Stores.{IsTyped}
use Rattle.sercos_block.specs.Views.{RingView}
use Rattle.sercos_script.specs.Links.{Carry, Restarts, carried_by_both, restarts_in_either}
use Rattle.sercos_script.specs.Scripts.{carried, restarts_at}
use Rattle.sercos_trace.specs.Views.{CycleView}
use Rattle.sercos_law_run.specs.Journal.Harmless.{IsHarmless}
use Rattle.sercos_law_run.specs.Journal.Runs.{IsRun, IsClear, run_of}
use Rattle.sercos_law_run.specs.Headline.Headline.{KeepsAll}
use Rattle.sercos_law_run.specs.Headline.Records.{AreOnce}
use Rattle.sercos_law_run.specs.Undisturbed.WholeRuns.{NeverDisturbed, StartsUp}
use Rattle.sercos_law_run.specs.Recovery.Predicts.{IsPredicted}
use Rattle.sercos_law_run.specs.Recovery.Recovers.{RecoversIn}
use Rattle.sercos_law_run.specs.Stations.Cycles.{DrivesArePlain}
use Rattle.sercos_law_run.specs.Stations.Senders.{IsAlone}
use Rattle.sercos_law_run.specs.Stations.Falls.{FallsForCause}
use Rattle.sercos_law_run.specs.Tolerance.Bears.{BearsIn}
use Rattle.sercos_law_run.specs.Tolerance.Returns.{ReturnsSparse}
use Rattle.sercos_law_run.specs.Held.Opened.{IsOpened}
use Rattle.sercos_config.specs.Views.{DocumentView}

-- The link of a document's ring is its script; with a link handed in, its script followed by that link.
abbrev pub script_carry : DocumentView → Carry
script_carry d = carried (length d.setup.drives) d.faults

abbrev pub script_restarts : DocumentView → Restarts
script_restarts d = restarts_at d.faults

abbrev pub carry_under : DocumentView → Carry → Carry
carry_under d carry = carried_by_both (script_carry d) carry

abbrev pub restarts_under : DocumentView → Restarts → Restarts
restarts_under d restarts = restarts_in_either (script_restarts d) restarts

-- the run of a document, for its number of cycles, the newest one first: over a link handed in too, and over its script alone
abbrev pub document_run : Carry → Restarts → DocumentView → List CycleView
document_run carry restarts d = run_of d.setup d.jobs (carry_under d carry) (restarts_under d restarts) d.setup.cycles

abbrev pub script_run : DocumentView → List CycleView
script_run d = run_of d.setup d.jobs (script_carry d) (script_restarts d) d.setup.cycles

-- Each cycle of a run, up to the first undetected damage, has all its promised properties: its telegrams are apart, no drive is in too
-- high a phase, and transfers are exact.
abbrev pub KeepsThroughout : RingView → List Job → Carry → Restarts → List CycleView → Type 0
KeepsThroughout r jobs carry restarts run = (later : List CycleView) (t : CycleView) (j : List CycleView) → run ≡ later ++ t ∷ j →
    IsClear (t ∷ j) → KeepsAll r jobs carry restarts t j

-- And in each cycle up to the first that is disturbed, the start-up goes as it should: phase 4 comes in time, or a stop for its cause.
abbrev pub StartsThroughout : RingView → List Job → Carry → Restarts → List CycleView → Type 0
StartsThroughout r jobs carry restarts run = (later : List CycleView) (t : CycleView) (j : List CycleView) → run ≡ later ++ t ∷ j →
    NeverDisturbed r carry restarts (t ∷ j) → StartsUp r jobs carry restarts t j

-- And in each cycle up to the first undetected damage, regardless of losses and restarts: once no cycle is disturbed any more, the ring
-- is back in time.
abbrev pub RecoversThroughout : RingView → List Job → Carry → Restarts → List CycleView → Type 0
RecoversThroughout r jobs carry restarts run = (later : List CycleView) (t : CycleView) (j : List CycleView) → run ≡ later ++ t ∷ j →
    IsClear (t ∷ j) → RecoversIn r jobs carry restarts t j

-- And while faults go on: in each such cycle the ring bears them, as long as the disturbed cycles are sparse.
abbrev pub BearsThroughout : RingView → List Job → Carry → Restarts → List CycleView → Type 0
BearsThroughout r jobs carry restarts run = (later : List CycleView) (t : CycleView) (j : List CycleView) → run ≡ later ++ t ∷ j →
    IsClear (t ∷ j) → BearsIn r jobs carry restarts t j

-- And after faults that aren't sparse, while sparse ones go on: at most one fall comes after the last of them, and the ring is back in
-- time.
abbrev pub ReturnsThroughout : RingView → List Job → Carry → Restarts → List CycleView → Type 0
ReturnsThroughout r jobs carry restarts run = (later : List CycleView) (t : CycleView) (j : List CycleView) → run ≡ later ++ t ∷ j →
    IsClear (t ∷ j) → ReturnsSparse r jobs carry restarts t j

-- And in each such cycle the planner's answer to the ring's requirements predicts the run: the plan or the chain that is reported, how far
-- the ring may rise, and the cause of a stop.
abbrev pub PredictsThroughout : RingView → List CycleView → Type 0
PredictsThroughout r run = (later : List CycleView) (t : CycleView) (j : List CycleView) → run ≡ later ++ t ∷ j → IsClear (t ∷ j) →
    IsPredicted r t

-- In each cycle, whatever arrived, the requests that end in it are reported in the order of the file, and none a second time.
abbrev pub OnceThroughout : List CycleView → Type 0
OnceThroughout run = (later : List CycleView) (t : CycleView) (j : List CycleView) → run ≡ later ++ t ∷ j → AreOnce t j

-- In each cycle, whatever arrived, each drive's data are fit for its phase, and it rises and goes to phase 0 for its causes alone.
abbrev pub DrivesThroughout : RingView → Carry → Restarts → List CycleView → Type 0
DrivesThroughout r carry restarts run = (later : List CycleView) (t : CycleView) (j : List CycleView) → run ≡ later ++ t ∷ j →
    DrivesArePlain r carry restarts t j

-- In each cycle, whatever arrived, a fall that is reported has its cause.
abbrev pub FallsThroughout : RingView → List Job → Carry → Restarts → List CycleView → Type 0
FallsThroughout r jobs carry restarts run = (later : List CycleView) (t : CycleView) (j : List CycleView) → run ≡ later ++ t ∷ j →
    FallsForCause r jobs carry restarts t j

-- And in each cycle up to the first undetected damage, at most one drive sends with phase 0, 1 or 2 commanded.
abbrev pub AloneThroughout : List CycleView → Type 0
AloneThroughout run = (later : List CycleView) (t : CycleView) (j : List CycleView) → run ≡ later ++ t ∷ j → IsClear (t ∷ j) → IsAlone t j

-- Cycles are a run, in which each is the next one after those before it, and they keep all this. If the link is harmless, no arrival
-- is unseen.
pub record IsKept (r : RingView) (jobs : List Job) (carry : Carry) (restarts : Restarts) (journal : List CycleView) : Type 0 where
  pub run : IsRun r jobs carry restarts journal
  pub clear : IsHarmless carry → IsClear journal
  pub once : OnceThroughout journal
  pub keeps : KeepsThroughout r jobs carry restarts journal
  pub predicts : PredictsThroughout r journal
  pub starts : StartsThroughout r jobs carry restarts journal
  pub recovers : RecoversThroughout r jobs carry restarts journal
  pub bears : BearsThroughout r jobs carry restarts journal
  pub returns : ReturnsThroughout r jobs carry restarts journal
  pub drives : DrivesThroughout r carry restarts journal
  pub falls : FallsThroughout r jobs carry restarts journal
  pub alone : AloneThroughout journal

-- The cycles of a document are such a run: over a link handed in too, and over its script alone.
abbrev pub IsDocumentRun : Carry → Restarts → DocumentView → Type 0
IsDocumentRun carry restarts d = IsKept d.setup d.jobs (carry_under d carry) (restarts_under d restarts) (document_run carry restarts d)

abbrev pub IsScriptRun : DocumentView → Type 0
IsScriptRun d = IsKept d.setup d.jobs (script_carry d) (script_restarts d) (script_run d)

-- A ring may be opened with its requests if it is valid, a master of it may be opened with them, and the numbers of both are those of
-- their types.
abbrev pub OpensIfTyped : Type 0
OpensIfTyped = (r : RingView) (jobs : List Job) → is_ring r ≡ true
    → AreJobs (λ address. has_address address r.drives) (λ address raw. has_other_data address raw r.drives) jobs
    → All IsTyped r.drives → AreTypedJobs jobs → IsOpened r jobs

-- All this holds of a ring that may be opened with its requests, over any link, and for each number of cycles.
abbrev pub OpenedIsKept : Type 0
OpenedIsKept = (r : RingView) (jobs : List Job) (carry : Carry) (restarts : Restarts) (cycles : ℕ) → IsOpened r jobs →
    IsKept r jobs carry restarts (run_of r jobs carry restarts cycles)
