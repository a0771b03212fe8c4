-- How long phase 2 lasts while disturbed cycles are sparse. The newest cycle of a journal comes first.
use Rattle.std.specs.Prelude.{◌≡◌, ◌+◌, ◌≤◌, List, ◌∷◌, ◌++◌, length, None}
use Rattle.std.specs.List.{sum_by}
use Rattle.sercos_step.specs.declared.request.Job.{Job}
use Rattle.sercos_block.specs.Views.{DriveView, RingView}
use Rattle.sercos_trace.specs.Views.{CycleView}
use Rattle.sercos_script.specs.Links.{Carry, Restarts}
use Rattle.sercos_law_run.specs.Bounds.Bounds.{read_cycles, write_cycles}
use Rattle.sercos_law_run.specs.Journal.Runs.{IsClear, IsRun}
use Rattle.sercos_law_run.specs.Views.RingViews.{behind_mdt}
use Rattle.sercos_law_run.specs.Held.Opened.{IsOpened}
use Rattle.sercos_law_run.specs.Undisturbed.EpochStarts.{StartsEpoch}
use Rattle.sercos_law_run.specs.Tolerance.Early.{early_costs}
use Rattle.sercos_law_run.specs.Tolerance.Losses.{disturbances}
use Rattle.sercos_law_run.specs.Tolerance.Sparse.{AreSparse}

-- PHASE 2. While it is commanded in an epoch whose disturbed cycles are sparse, and the master has no stop, the cycles of the epoch so far
-- are at most eleven, one for each drive, those of the reads and the writes of each drive, and what the disturbed cycles cost in phases 0
-- and 1, and in phase 2.
abbrev pub TwoSparse : Type 0
TwoSparse = (r : RingView) (jobs : List Job) (carry : Carry) (restarts : Restarts) (t : CycleView) (cycles before : List CycleView) →
    IsOpened r jobs → IsRun r jobs carry restarts (t ∷ (cycles ++ before)) → IsClear (t ∷ (cycles ++ before)) →
    StartsEpoch r jobs carry restarts before → AreSparse r carry restarts (t ∷ cycles) before → t.phase ≡ 2 →
    (behind_mdt r jobs carry restarts t.sent (cycles ++ before)).stop ≡ None →
    length cycles ≤ 11 + length r.drives + sum_by (λ (d : DriveView). read_cycles d + write_cycles d) r.drives
    + early_costs r jobs carry restarts cycles before + disturbances r carry restarts cycles before
