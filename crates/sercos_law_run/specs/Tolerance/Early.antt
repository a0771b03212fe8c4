-- Within how many cycles phase 2 is commanded while disturbed cycles are sparse. The newest cycle of a journal comes first.
use Rattle.std.specs.Prelude.{ℕ, ◌+◌, ◌≤◌, ◌==◌, if◌then◌else◌, List, [], ◌∷◌, ◌++◌, length}
use Rattle.sercos_step.specs.declared.request.Job.{Job}
use Rattle.sercos_block.specs.Views.{RingView}
use Rattle.sercos_trace.specs.Views.{CycleView}
use Rattle.sercos_script.specs.Links.{Carry, Restarts}
use Rattle.sercos_law_run.specs.Journal.Runs.{is_disturbed_in, IsClear, IsRun}
use Rattle.sercos_law_run.specs.Views.RingViews.{behind_mst}
use Rattle.sercos_law_run.specs.Held.Opened.{IsOpened}
use Rattle.sercos_law_run.specs.Undisturbed.EpochStarts.{StartsEpoch}
use Rattle.sercos_law_run.specs.Tolerance.Sparse.{AreSparse}

-- What a cycle of phase 0 or 1 costs a start-up: ten cycles in phase 0 if the MST doesn't come back whole to the master, and two in phase
-- 1 if the cycle is disturbed.
abbrev pub early_cost : RingView → List Job → Carry → Restarts → CycleView → List CycleView → ℕ
early_cost r jobs carry restarts t j =
    if t.phase == 0 then (if (behind_mst r jobs carry restarts t.sent j).now.whole then 0 else 10)
    else (if t.phase == 1 then (if is_disturbed_in r carry restarts (length j) t.sent then 2 else 0) else 0)

abbrev pub early_costs : RingView → List Job → Carry → Restarts → List CycleView → List CycleView → ℕ
early_costs r jobs carry restarts [] before = 0
early_costs r jobs carry restarts (t ∷ cycles) before =
    early_costs r jobs carry restarts cycles before + early_cost r jobs carry restarts t (cycles ++ before)

-- PHASES 0 AND 1. While one of them is commanded in an epoch whose disturbed cycles are sparse, the cycles of the epoch so far are at most
-- ten, one for each drive, and what the cycles of these phases cost.
abbrev pub EarlySparse : Type 0
EarlySparse = (r : RingView) (jobs : List Job) (carry : Carry) (restarts : Restarts) (t : CycleView) (cycles before : List CycleView) →
    IsOpened r jobs → IsRun r jobs carry restarts (t ∷ (cycles ++ before)) → IsClear (t ∷ (cycles ++ before)) →
    StartsEpoch r jobs carry restarts before → AreSparse r carry restarts (t ∷ cycles) before → t.phase ≤ 1 →
    length cycles ≤ 10 + length r.drives + early_costs r jobs carry restarts cycles before
