-- In how many cycles a start-up ends if no drive is in phase 0. The newest cycle of a journal comes first.
use Rattle.std.specs.Prelude.{◌≡◌, ◌⊎◌, ℕ, ◌+◌, ◌*◌, ◌<◌, ◌≤◌, true, List, ◌∷◌, ◌++◌, length, is_some}
use Rattle.sercos_step.specs.declared.request.Job.{Job}
use Rattle.sercos_block.specs.Startup.{startup_bound}
use Rattle.sercos_block.specs.Views.{RingView}
use Rattle.sercos_law_run.specs.Bounds.Bounds.{stop_cycles}
use Rattle.sercos_trace.specs.Views.{CycleView}
use Rattle.sercos_script.specs.Links.{Carry, Restarts}
use Rattle.sercos_law_run.specs.Journal.Runs.{IsClear, IsRun}
use Rattle.sercos_law_run.specs.Views.RingViews.{behind_mdt}
use Rattle.sercos_law_run.specs.Held.Opened.{IsOpened}
use Rattle.sercos_law_run.specs.Recovery.Stretches.{IsDown, IsStretch}

-- In undisturbed cycles without a fall, after a first one of phase 2 or later at whose end no drive is in phase 0: from the cycles on that
-- a start-up and a refusal take, counted from the cycle before the first, phase 4 is commanded, or the master has a stop.
abbrev pub ComesBack : Type 0
ComesBack = (r : RingView) (jobs : List Job) (carry : Carry) (restarts : Restarts) (t : CycleView) (cycles : List CycleView)
    (first : CycleView) (before : List CycleView) → IsOpened r jobs →
    IsRun r jobs carry restarts (t ∷ (cycles ++ first ∷ before)) → IsClear (t ∷ (cycles ++ first ∷ before)) →
    IsStretch r jobs carry restarts (t ∷ cycles) first before → 2 ≤ first.phase →
    ((k : ℕ) → k < length r.drives → IsDown r jobs carry restarts k (first ∷ before) → ⊥) →
    startup_bound r + stop_cycles r ≤ length cycles + 1 →
    (t.phase ≡ 4) ⊎ (is_some (behind_mdt r jobs carry restarts t.sent (cycles ++ first ∷ before)).stop ≡ true)
