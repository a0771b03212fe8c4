-- The stops of phases 3 and 4, and how a start-up ends. The newest cycle of a journal comes first.
use Rattle.std.specs.Prelude.{◌≡◌, ◌⊎◌, ℕ, ◌+◌, ◌*◌, ◌<◌, ◌≤◌, true, false, List, [], ◌∷◌, ◌++◌, length, map, Some, None}
use Rattle.std.specs.List.{filter, list_any}
use Rattle.sercos_idn.specs.declared.idn.Idn.{Idn}
use Rattle.sercos_step.specs.declared.request.Job.{Job}
use Rattle.sercos_block.specs.declared.block.Block.{Block}
use Rattle.sercos_block.specs.Startup.{startup_bound}
use Rattle.sercos_block.specs.Stores.{with_own}
use Rattle.sercos_block.specs.Views.{RingView}
use Rattle.sercos_law_run.specs.Bounds.Bounds.{stop_cycles}
use Rattle.sercos_command.specs.Checks.{is_outside}
use Rattle.sercos_trace.specs.Views.{CycleView}
use Rattle.sercos_trace.specs.declared.events.Stop.{Stop}
use Rattle.sercos_trace.specs.declared.events.Stop.TheVariants as stop
use Rattle.sercos_seat.specs.Ring.{known_of}
use Rattle.sercos_master.specs.Annals.{Past}
use Rattle.sercos_script.specs.Links.{Carry, Restarts}
use Rattle.sercos_law_run.specs.Journal.Runs.{drive_at, IsRun, IsClear}
use Rattle.sercos_law_run.specs.Agenda.Stops.{HasFailedCheck}
use Rattle.sercos_law_run.specs.Views.RingViews.{behind_mdt}
use Rattle.sercos_law_run.specs.Held.Opened.{IsOpened}
use Rattle.sercos_law_run.specs.Undisturbed.Undisturbed.{AreUndisturbed}
use Rattle.sercos_law_run.specs.Undisturbed.EpochStarts.{StartsEpoch}
use Rattle.sercos_law_run.specs.Undisturbed.Fit.{IsFit}
use Rattle.sercos_law_run.specs.Undisturbed.StopsInTwo.{StopsForThePlan, StopsForTheCycleTime}

-- A plan fits, and the cycle time lies within each drive's limits; but the check for phase 4 of the drive with this address, which is 12
-- requests after the reads, has ended badly, since an own block of the drive was outside its limits at opening. The stop has the list that
-- the drive then returned: the identifier numbers of exactly these blocks, ascending, as the store has them.
pub record StopsForTheCheck (r : RingView) (p : Past) (x : Stop) : Type 0 where
  pub address : ℕ
  pub list : List Idn
  pub is : x ≡ stop.Check128 address (record { items = list })
  pub failed : HasFailedCheck (known_of r) p 12 address list
  pub there : failed.place < length r.drives
  pub outside : list_any is_outside (drive_at r failed.place).blocks ≡ true
  pub lists : list ≡ map (λ (b : Block). b.idn) (filter is_outside (with_own [] (drive_at r failed.place).blocks))
  pub fits : IsFit r

-- So each stop in phase 3 is, in every run in which nothing was unseen.
abbrev pub StopsInThree : Type 0
StopsInThree = (r : RingView) (jobs : List Job) (carry : Carry) (restarts : Restarts) (t : CycleView) (j : List CycleView) (x : Stop) →
    IsOpened r jobs → IsRun r jobs carry restarts (t ∷ j) → IsClear (t ∷ j) →
    t.phase ≡ 3 → (behind_mdt r jobs carry restarts t.sent j).stop ≡ Some x →
    StopsForTheCheck r (behind_mdt r jobs carry restarts t.sent j) x

-- And in phase 4 there is no stop.
abbrev pub NoStopInFour : Type 0
NoStopInFour = (r : RingView) (jobs : List Job) (carry : Carry) (restarts : Restarts) (t : CycleView) (j : List CycleView) →
    IsOpened r jobs → IsRun r jobs carry restarts (t ∷ j) → IsClear (t ∷ j) → t.phase ≡ 4 →
    (behind_mdt r jobs carry restarts t.sent j).stop ≡ None

-- a plan fits, the cycle time lies within each drive's limits, and no own block of a drive was outside its limits at opening
abbrev pub IsRight : RingView → Type 0
IsRight r = IsFit r × ((k : ℕ) → k < length r.drives → list_any is_outside (drive_at r k).blocks ≡ false)

-- HOW AN UNDISTURBED START-UP ENDS. After the cycles of the bound, and 41 steps more of the slowest drive, phase 4 is commanded, there is
-- no stop, and the ring is right; or the master has stopped for the plan, for the cycle time, or for a check.
abbrev pub EndsStartUp : Type 0
EndsStartUp = (r : RingView) (jobs : List Job) (carry : Carry) (restarts : Restarts) (t : CycleView) (cycles before : List CycleView) →
    IsOpened r jobs → IsRun r jobs carry restarts (t ∷ (cycles ++ before)) →
    IsClear (t ∷ (cycles ++ before)) → StartsEpoch r jobs carry restarts before → AreUndisturbed r carry restarts (t ∷ cycles) before →
    startup_bound r + stop_cycles r ≤ length cycles →
    ((t.phase ≡ 4) × ((behind_mdt r jobs carry restarts t.sent (cycles ++ before)).stop ≡ None) × IsRight r)
    ⊎ ((x : Stop) × ((behind_mdt r jobs carry restarts t.sent (cycles ++ before)).stop ≡ Some x)
    × (StopsForThePlan r x ⊎
    (StopsForTheCycleTime r x ⊎ StopsForTheCheck r (behind_mdt r jobs carry restarts t.sent (cycles ++ before)) x)))

-- IF THE RING IS RIGHT, phase 4 is commanded after the cycles of the bound of a start-up.
abbrev pub RisesIfRight : Type 0
RisesIfRight = (r : RingView) (jobs : List Job) (carry : Carry) (restarts : Restarts) (t : CycleView) (cycles before : List CycleView) →
    IsOpened r jobs → IsRun r jobs carry restarts (t ∷ (cycles ++ before)) →
    IsClear (t ∷ (cycles ++ before)) → StartsEpoch r jobs carry restarts before → AreUndisturbed r carry restarts (t ∷ cycles) before →
    startup_bound r ≤ length cycles → IsRight r → t.phase ≡ 4
