-- The stops of phase 2, and their causes. The newest cycle of a journal comes first.
use Rattle.std.specs.Prelude.{◌≡◌, ◌⊎◌, ℕ, ◌<◌, ◌≤◌, List, ◌∷◌, length, Some}
use Rattle.sercos_idn.specs.declared.code.Code.{Code}
use Rattle.sercos_idn.specs.declared.idn.Idn.{Idn}
use Rattle.sercos_step.specs.declared.request.Job.{Job}
use Rattle.sercos_timing.specs.Inequalities.{Fits}
use Rattle.sercos_timing.specs.Views.{PlanView}
use Rattle.sercos_plan.specs.Least.{NoneFits}
use Rattle.sercos_plan.specs.Views.{ChainView}
use Rattle.sercos_block.specs.Rings.{wishes_of}
use Rattle.sercos_block.specs.Views.{RingView, DriveView}
use Rattle.sercos_trace.specs.Views.{CycleView}
use Rattle.sercos_trace.specs.declared.events.Stop.{Stop}
use Rattle.sercos_trace.specs.declared.events.Stop.TheVariants as stop
use Rattle.sercos_script.specs.Links.{Carry, Restarts}
use Rattle.sercos_law_run.specs.Journal.Runs.{drive_at, IsRun, IsClear}
use Rattle.sercos_law_run.specs.Views.RingViews.{behind_mdt}
use Rattle.sercos_law_run.specs.Held.Opened.{IsOpened}

-- the cycle time lies below the drive's least, with that code; or above its greatest
abbrev pub IsOutside : DriveView → ℕ → Code → Type 0
IsOutside d cycle code = ((cycle < d.cycle_min) × (code.raw ≡ 0x7006)) ⊎ ((d.cycle_max < cycle) × (code.raw ≡ 0x7007))

-- the cycle time lies within the limits of the drive
abbrev pub IsWithin : DriveView → ℕ → Type 0
IsWithin d cycle = (d.cycle_min ≤ cycle) × (cycle ≤ d.cycle_max)

-- The drive with this address refused the cycle time, S-0-0002, since it is outside the drive's limits. It is the first of these drives, in
-- the order of the ring.
pub record RefusesCycleTime (r : RingView) (address : ℕ) (i : Idn) (code : Code) : Type 0 where
  pub place : ℕ
  pub there : place < length r.drives
  pub address_is : (drive_at r place).address ≡ address
  pub number : i.raw ≡ 2
  pub outside : IsOutside (drive_at r place) r.cycle code
  pub first : (k : ℕ) → k < place → IsWithin (drive_at r k) r.cycle

-- No plan fits the ring's requirements, and the stop is `NoFit`.
pub record StopsForThePlan (r : RingView) (x : Stop) : Type 0 where
  pub chain : ChainView
  pub is : x ≡ stop.NoFit chain
  pub none : NoneFits (wishes_of r)

-- A plan fits, and the stop names the drive that refused the cycle time.
pub record StopsForTheCycleTime (r : RingView) (x : Stop) : Type 0 where
  pub address : ℕ
  pub idn : Idn
  pub code : Code
  pub is : x ≡ stop.Refused address idn code
  pub refuses : RefusesCycleTime r address idn code
  pub plan : PlanView
  pub fits : Fits (wishes_of r) plan

-- So it is wherever the master has stopped in phase 2, in every run in which nothing was unseen.
abbrev pub StopsInTwo : Type 0
StopsInTwo = (r : RingView) (jobs : List Job) (carry : Carry) (restarts : Restarts) (t : CycleView) (j : List CycleView) (x : Stop) →
    IsOpened r jobs → IsRun r jobs carry restarts (t ∷ j) → IsClear (t ∷ j) → t.phase ≡ 2 →
    (behind_mdt r jobs carry restarts t.sent j).stop ≡ Some x → StopsForThePlan r x ⊎ StopsForTheCycleTime r x
