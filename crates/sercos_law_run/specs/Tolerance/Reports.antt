-- Within how many cycles of phase 4 the requests to a drive are reported while disturbed cycles are sparse. The newest cycle of a journal
-- comes first.
use Rattle.std.specs.Prelude.{◌≡◌, ℕ, suc, ◌+◌, ◌*◌, ◌<◌, ◌≤◌, ◌==◌, if◌then◌else◌, List, [], ◌∷◌, ◌++◌, length, Some, slice_get}
use Rattle.sercos_step.specs.declared.request.Job.{Job}
use Rattle.sercos_block.specs.Views.{RingView}
use Rattle.sercos_trace.specs.Views.{CycleView}
use Rattle.sercos_seat.specs.Ring.{Task}
use Rattle.sercos_script.specs.Links.{Carry, Restarts}
use Rattle.sercos_law_run.specs.Journal.Runs.{IsClear, IsRun}
use Rattle.sercos_law_run.specs.Held.Opened.{IsOpened}
use Rattle.sercos_law_run.specs.Undisturbed.EpochStarts.{StartsEpoch}
use Rattle.sercos_law_run.specs.Undisturbed.Reports.{HaveTold, request_cycles, waiting_after}
use Rattle.sercos_law_run.specs.Tolerance.Sparse.{AreSparse}

-- in how many of these cycles a phase is commanded
abbrev pub cycles_commanded : ℕ → List CycleView → ℕ
cycles_commanded phase [] = 0
cycles_commanded phase (t ∷ cycles) = if t.phase == phase then suc (cycles_commanded phase cycles) else cycles_commanded phase cycles

-- THE REQUESTS ARE REPORTED IN TIME. Of the requests to a drive that wait where the epoch begins, take the one at place i, counted from 0.
-- As long as the disturbed cycles of the epoch are sparse, it has been reported once phase 4 was commanded in i + 1 times the cycles of one
-- request: as many as without faults.
abbrev pub ReportsSparse : Type 0
ReportsSparse = (r : RingView) (jobs : List Job) (carry : Carry) (restarts : Restarts) (t : CycleView) (cycles before : List CycleView) →
    IsOpened r jobs → IsRun r jobs carry restarts (t ∷ (cycles ++ before)) → IsClear (t ∷ (cycles ++ before)) →
    StartsEpoch r jobs carry restarts before → AreSparse r carry restarts (t ∷ cycles) before → (k i : ℕ) (x : Task) → k < length r.drives →
    slice_get (waiting_after r jobs carry restarts before k) i ≡ Some x → (i + 1) * request_cycles r k ≤ cycles_commanded 4 cycles →
    (number : ℕ) × (x.number ≡ Some number) × HaveTold (t ∷ cycles) number
