-- How a start-up ends while disturbed cycles are sparse. The newest cycle of a journal comes first.
use Rattle.std.specs.Prelude.{◌≡◌, ◌⊎◌, ◌+◌, ◌*◌, ◌≤◌, List, ◌∷◌, ◌++◌, length}
use Rattle.sercos_step.specs.declared.request.Job.{Job}
use Rattle.sercos_block.specs.Startup.{startup_bound}
use Rattle.sercos_block.specs.Views.{RingView}
use Rattle.sercos_trace.specs.Views.{CycleView}
use Rattle.sercos_trace.specs.declared.events.Stop.{Stop}
use Rattle.sercos_script.specs.Links.{Carry, Restarts}
use Rattle.sercos_law_run.specs.Bounds.Bounds.{stop_cycles}
use Rattle.sercos_law_run.specs.Journal.Runs.{IsClear, IsRun}
use Rattle.sercos_law_run.specs.Held.Opened.{IsOpened}
use Rattle.sercos_law_run.specs.Undisturbed.EpochStarts.{StartsEpoch}
use Rattle.sercos_law_run.specs.Undisturbed.StopsLater.{IsRight}
use Rattle.sercos_law_run.specs.Undisturbed.WholeRuns.{HasTold, StopsForCause}
use Rattle.sercos_law_run.specs.Tolerance.Rises.{start_costs}
use Rattle.sercos_law_run.specs.Tolerance.Sparse.{AreSparse}

-- Phase 4 is commanded in a cycle t of an epoch, and the ring is right; or the record of t, or of one of the cycles of the epoch before it,
-- has a stop for its cause.
abbrev pub IsUpOrStopped : RingView → CycleView → List CycleView → Type 0
IsUpOrStopped r t cycles = ((t.phase ≡ 4) × IsRight r) ⊎ ((x : Stop) × HasTold x (t ∷ cycles) × StopsForCause r x)

-- HOW A START-UP ENDS. From 41 steps of the slowest drive after the bound of a start-up on, and what the cycles of the epoch cost so far,
-- this holds, as long as its disturbed cycles are sparse. The stop may name another drive than it does without faults.
abbrev pub EndsSparse : Type 0
EndsSparse = (r : RingView) (jobs : List Job) (carry : Carry) (restarts : Restarts) (t : CycleView) (cycles before : List CycleView) →
    IsOpened r jobs → IsRun r jobs carry restarts (t ∷ (cycles ++ before)) → IsClear (t ∷ (cycles ++ before)) →
    StartsEpoch r jobs carry restarts before → AreSparse r carry restarts (t ∷ cycles) before →
    startup_bound r + stop_cycles r + start_costs r jobs carry restarts cycles before ≤ length cycles
    → IsUpOrStopped r t cycles
