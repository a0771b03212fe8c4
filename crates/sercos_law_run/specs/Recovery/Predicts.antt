-- What the planner's answer to a ring's requirements says of its run. The newest cycle of a journal comes first.
use Rattle.std.specs.Prelude.{◌≡◌, ◌≤◌, List, ◌∷◌, Some, Ok, Err}
use Rattle.sercos_step.specs.declared.request.Job.{Job}
use Rattle.sercos_timing.specs.Views.{PlanView}
use Rattle.sercos_plan.specs.ChainOf.{planned}
use Rattle.sercos_plan.specs.Views.{ChainView}
use Rattle.sercos_block.specs.Rings.{wishes_of}
use Rattle.sercos_block.specs.Views.{RingView}
use Rattle.sercos_trace.specs.Views.{CycleView}
use Rattle.sercos_trace.specs.declared.events.Stop.{Stop}
use Rattle.sercos_trace.specs.declared.events.Stop.TheVariants as stop
use Rattle.sercos_script.specs.Links.{Carry, Restarts}
use Rattle.sercos_law_run.specs.Journal.Runs.{IsClear, IsRun}
use Rattle.sercos_law_run.specs.Held.Opened.{IsOpened}
use Rattle.sercos_law_run.specs.Undisturbed.Fit.{IsFit}
use Rattle.sercos_law_run.specs.Undisturbed.StopsLater.{IsRight}
use Rattle.sercos_law_run.specs.Undisturbed.WholeRuns.{StopsForCause}

-- THE PLANNER PREDICTS THE RUN. A plan that is reported in a cycle is the planner's for the ring's requirements, and so is the chain of a
-- reported `NoFit`. Phase 3 is commanded only if a plan fits and the cycle time lies within each drive's limits; phase 4, only if
-- furthermore no own block of a drive was outside its limits at opening. Each stop that is reported has its cause.
pub record IsPredicted (r : RingView) (t : CycleView) : Type 0 where
  pub plan : (p : PlanView) → t.events.plan ≡ Some p → planned (wishes_of r) ≡ Ok p
  pub chain : (c : ChainView) → t.events.stop ≡ Some (stop.NoFit c) → planned (wishes_of r) ≡ Err c
  pub fit : 3 ≤ t.phase → IsFit r
  pub right : t.phase ≡ 4 → IsRight r
  pub stops : (x : Stop) → t.events.stop ≡ Some x → StopsForCause r x

-- So it is in each cycle of a run in which nothing was unseen so far, regardless of losses and restarts, and in a cycle of a fall too.
abbrev pub Predicts : Type 0
Predicts = (r : RingView) (jobs : List Job) (carry : Carry) (restarts : Restarts) (t : CycleView) (j : List CycleView) → IsOpened r jobs →
    IsRun r jobs carry restarts (t ∷ j) → IsClear (t ∷ j) → IsPredicted r t
