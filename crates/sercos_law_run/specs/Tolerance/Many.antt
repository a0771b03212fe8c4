-- Within how many cycles phase 4 begins while disturbed cycles are sparse, however many they are. The newest cycle of a journal comes
-- first.
use Rattle.std.specs.Prelude.{◌≡◌, ℕ, ◌+◌, ◌*◌, ◌≤◌, ◌==◌, if◌then◌else◌, List, [], ◌∷◌, ◌++◌, length}
use Rattle.std.specs.List.{sum_by}
use Rattle.sercos_step.specs.declared.request.Job.{Job}
use Rattle.sercos_block.specs.Startup.{change_cycles, early_cycles, identifying_cycles, start_steps_of}
use Rattle.sercos_block.specs.Views.{DriveView, RingView}
use Rattle.sercos_trace.specs.Views.{CycleView}
use Rattle.sercos_script.specs.Links.{Carry, Restarts}
use Rattle.sercos_law_run.specs.Bounds.Bounds.{stop_cycles}
use Rattle.sercos_law_run.specs.Journal.Runs.{IsClear, IsRun}
use Rattle.sercos_law_run.specs.Views.RingViews.{behind_mst}
use Rattle.sercos_law_run.specs.Held.Opened.{IsOpened}
use Rattle.sercos_law_run.specs.Undisturbed.EpochStarts.{StartsEpoch}
use Rattle.sercos_law_run.specs.Undisturbed.StopsLater.{IsRight}
use Rattle.sercos_law_run.specs.Tolerance.Ends.{IsUpOrStopped}
use Rattle.sercos_law_run.specs.Tolerance.Sparse.{AreSparse}

-- the bound of a start-up, with each drive busy for one cycle more
abbrev pub slow_startup_of : DriveView → ℕ
slow_startup_of d = (d.busy + 3) * start_steps_of d

abbrev pub slow_bound : RingView → ℕ
slow_bound r = early_cycles + 2 * change_cycles + identifying_cycles * length r.drives + sum_by slow_startup_of r.drives

-- ten cycles for each cycle of phase 0 whose MST doesn't come back whole to the master
abbrev pub own_cost : RingView → List Job → Carry → Restarts → CycleView → List CycleView → ℕ
own_cost r jobs carry restarts t j =
    if t.phase == 0 then (if (behind_mst r jobs carry restarts t.sent j).now.whole then 0 else 10) else 0

abbrev pub own_costs : RingView → List Job → Carry → Restarts → List CycleView → List CycleView → ℕ
own_costs r jobs carry restarts [] before = 0
own_costs r jobs carry restarts (t ∷ cycles) before =
    own_costs r jobs carry restarts cycles before + own_cost r jobs carry restarts t (cycles ++ before)

-- IF THE RING IS RIGHT, phase 4 is commanded from that bound on, and ten cycles more for each MST that was lost in phase 0, however many
-- cycles are disturbed from phase 1 on, as long as they are sparse.
abbrev pub RisesAnyway : Type 0
RisesAnyway = (r : RingView) (jobs : List Job) (carry : Carry) (restarts : Restarts) (t : CycleView) (cycles before : List CycleView) →
    IsOpened r jobs → IsRun r jobs carry restarts (t ∷ (cycles ++ before)) → IsClear (t ∷ (cycles ++ before)) →
    StartsEpoch r jobs carry restarts before → AreSparse r carry restarts (t ∷ cycles) before → IsRight r →
    slow_bound r + own_costs r jobs carry restarts cycles before ≤ length cycles → t.phase ≡ 4

-- IF IT ISN'T, a stop for its cause is reported at the latest 41 steps of the slowest drive later.
abbrev pub EndsAnyway : Type 0
EndsAnyway = (r : RingView) (jobs : List Job) (carry : Carry) (restarts : Restarts) (t : CycleView) (cycles before : List CycleView) →
    IsOpened r jobs → IsRun r jobs carry restarts (t ∷ (cycles ++ before)) → IsClear (t ∷ (cycles ++ before)) →
    StartsEpoch r jobs carry restarts before → AreSparse r carry restarts (t ∷ cycles) before →
    slow_bound r + stop_cycles r + own_costs r jobs carry restarts cycles before ≤ length cycles → IsUpOrStopped r t cycles
