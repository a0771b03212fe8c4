-- Within how many cycles phase 4 begins while disturbed cycles are sparse. The newest cycle of a journal comes first.
use Rattle.std.specs.Prelude.{◌≡◌, ℕ, ◌+◌, ◌≤◌, ◌==◌, if◌then◌else◌, List, [], ◌∷◌, ◌++◌, length}
use Rattle.sercos_step.specs.declared.request.Job.{Job}
use Rattle.sercos_block.specs.Startup.{startup_bound}
use Rattle.sercos_block.specs.Views.{RingView}
use Rattle.sercos_trace.specs.Views.{CycleView}
use Rattle.sercos_script.specs.Links.{Carry, Restarts}
use Rattle.sercos_law_run.specs.Journal.Runs.{is_disturbed_in, IsClear, IsRun}
use Rattle.sercos_law_run.specs.Held.Opened.{IsOpened}
use Rattle.sercos_law_run.specs.Undisturbed.EpochStarts.{StartsEpoch}
use Rattle.sercos_law_run.specs.Undisturbed.StopsLater.{IsRight}
use Rattle.sercos_law_run.specs.Tolerance.Early.{early_cost}
use Rattle.sercos_law_run.specs.Tolerance.Sparse.{AreSparse}

-- What a cycle costs a start-up: ten cycles in phase 0 if the MST doesn't come back whole to the master; two in phases 1 and 2, and one in
-- phase 3, if the cycle is disturbed.
abbrev pub start_cost : RingView → List Job → Carry → Restarts → CycleView → List CycleView → ℕ
start_cost r jobs carry restarts t j =
    early_cost r jobs carry restarts t j
    + (if is_disturbed_in r carry restarts (length j) t.sent then (if t.phase == 2 then 2 else (if t.phase == 3 then 1 else 0)) else 0)

abbrev pub start_costs : RingView → List Job → Carry → Restarts → List CycleView → List CycleView → ℕ
start_costs r jobs carry restarts [] before = 0
start_costs r jobs carry restarts (t ∷ cycles) before =
    start_costs r jobs carry restarts cycles before + start_cost r jobs carry restarts t (cycles ++ before)

-- IF THE RING IS RIGHT, phase 4 is commanded from the bound of a start-up on, and what the cycles of the epoch cost so far, as long as its
-- disturbed cycles are sparse.
abbrev pub RisesSparse : Type 0
RisesSparse = (r : RingView) (jobs : List Job) (carry : Carry) (restarts : Restarts) (t : CycleView) (cycles before : List CycleView) →
    IsOpened r jobs → IsRun r jobs carry restarts (t ∷ (cycles ++ before)) → IsClear (t ∷ (cycles ++ before)) →
    StartsEpoch r jobs carry restarts before → AreSparse r carry restarts (t ∷ cycles) before → IsRight r →
    startup_bound r + start_costs r jobs carry restarts cycles before ≤ length cycles → t.phase ≡ 4
