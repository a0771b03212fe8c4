-- What a ring keeps, and how it is related to the cycles that it has made.
use Rattle.std.specs.Prelude.{◌≡◌, ℕ, ◌+◌, ◌≤◌, List, [], ◌∷◌, length, true, Option, Some, None}
use Rattle.sercos_step.specs.declared.request.Job.{Job}
use Rattle.sercos_block.specs.Views.{RingView}
use Rattle.sercos_block.specs.Rings.{is_ring}
use Rattle.sercos_trace.specs.Views.{CycleView}
use Rattle.sercos_seat.specs.Ring.{Known, known_of}
use Rattle.sercos_master.specs.declared.master.AnyMaster.{AnyMaster}
use Rattle.sercos_master.specs.Annals.{Call}
use Rattle.sercos_master.specs.Any.{AnyStandsFor}
use Rattle.sercos_script.specs.Links.{Carry, Restarts}
use Rattle.sercos_law_run.specs.Journal.Runs.{drive_at, master_calls, given_before, IsNext, IsRun, IsClear}
use Rattle.sercos_law_run.specs.Held.Opened.{IsOpened}
use Rattle.sercos_law_run.specs.Headline.Headline.{KeepsAll}
use Rattle.sercos_law_run.specs.Headline.Records.{AreOnce}
use Rattle.sercos_law_run.specs.Recovery.Predicts.{IsPredicted}
use Rattle.sercos_law_run.specs.Undisturbed.WholeRuns.{NeverDisturbed, StartsUp}
use Rattle.sercos_law_run.specs.Recovery.Recovers.{RecoversIn}
use Rattle.sercos_law_run.specs.Stations.Cycles.{DrivesArePlain}
use Rattle.sercos_law_run.specs.Stations.Senders.{IsAlone}
use Rattle.sercos_law_run.specs.Stations.Falls.{FallsForCause}
use Rattle.sercos_law_run.specs.Tolerance.Bears.{BearsIn}
use Rattle.sercos_law_run.specs.Tolerance.Returns.{ReturnsSparse}
use Rattle.sercos_ring.specs.Stations.{AllStand, addresses_below}
use Rattle.sercos_ring.specs.declared.ring.Ring.{Ring}

-- the number of drives of a ring, the number of cycles that it has made, and the record of the
-- newest one
abbrev pub drives_in : {L : Type 0} → Ring L → ℕ
drives_in ring = length ring.drives.items

abbrev pub cycles_made : {L : Type 0} → Ring L → ℕ
cycles_made ring = ring.cycle

abbrev pub newest : {L : Type 0} → Ring L → CycleView
newest ring = ring.made.value

-- the record is that of the newest cycle, if there is one
abbrev pub IsNewest : CycleView → List CycleView → Type 0
IsNewest v [] = Unit {0}
IsNewest v (t ∷ j) = v ≡ t

-- the master is present, and its state is that after its calls
abbrev pub HasMaster : Option AnyMaster → Known → List Job → List Call → Type 0
HasMaster None s jobs h = ⊥
HasMaster (Some master) s jobs h = AnyStandsFor master s jobs h

-- The state of a ring over a link after its opening with these arguments, and after the cycles of a
-- journal, the newest first. The journal is a run, and the link, the drives and the master are as
-- they are after it. `carry_of` and `restart_of` are the link's meanings.
pub record RingStandsFor {L : Type 0} (carry_of : L → Carry) (restart_of : L → Restarts) (ring : Ring L) (r : RingView) (jobs : List Job)
    (carry : Carry) (restarts : Restarts)
    (j : List CycleView) : Type 0 where
  pub valid : is_ring r ≡ true
  pub run : IsRun r jobs carry restarts j
  pub carry_is : carry_of ring.link ≡ carry
  pub restarts_is : restart_of ring.link ≡ restarts
  pub cycle_is : ring.cycle ≡ length j
  pub record_is : IsNewest (newest ring) j
  pub rate_is : ring.rate ≡ r.rate
  pub addresses_are : ring.addresses.items ≡ addresses_below (length r.drives) (drive_at r)
  pub count_is : length ring.drives.items ≡ length r.drives
  pub drives_stand : AllStand ring.drives.items (drive_at r) r.rate (given_before carry restarts j)
  pub master_stands : HasMaster ring.master (known_of r) jobs (master_calls r carry restarts j)

-- After a cycle the journal of the ring has one cycle more, whose record the ring keeps.
pub record AfterCycle {L : Type 0} (carry_of : L → Carry) (restart_of : L → Restarts) (old new : Ring L) : Type 0 where
  pub stands_for : (r : RingView) (jobs : List Job) (carry : Carry) (restarts : Restarts) (j : List CycleView)
      → RingStandsFor carry_of restart_of old r jobs carry restarts j
      → RingStandsFor carry_of restart_of new r jobs carry restarts (newest new ∷ j)
  pub count : cycles_made new ≤ cycles_made old + 1
  pub drives : drives_in new ≡ drives_in old

-- a record is that of the next cycle of a ring, for every journal that the ring stands for
pub record IsNextOf {L : Type 0} (carry_of : L → Carry) (restart_of : L → Restarts) (ring : Ring L) (made : CycleView) : Type 0 where
  pub next : (r : RingView) (jobs : List Job) (carry : Carry) (restarts : Restarts) (j : List CycleView)
      → RingStandsFor carry_of restart_of ring r jobs carry restarts j → IsNext r jobs carry restarts made j

-- What is true of the record of the next cycle of a ring, if the ring was opened with typed values
-- and nothing was undetected so far.
pub record KeepsAllOf {L : Type 0} (carry_of : L → Carry) (restart_of : L → Restarts) (ring : Ring L) (made : CycleView) : Type 0 where
  pub keeps : (r : RingView) (jobs : List Job) (carry : Carry) (restarts : Restarts) (j : List CycleView)
      → RingStandsFor carry_of restart_of ring r jobs carry restarts j → IsOpened r jobs → IsClear (made ∷ j) →
      KeepsAll r jobs carry restarts made j

-- And a plan, or the chain of a stop without one, that is told in it is the planner's for the ring.
pub record PredictsOf {L : Type 0} (carry_of : L → Carry) (restart_of : L → Restarts) (ring : Ring L) (made : CycleView) : Type 0 where
  pub predicts : (r : RingView) (jobs : List Job) (carry : Carry) (restarts : Restarts) (j : List CycleView)
      → RingStandsFor carry_of restart_of ring r jobs carry restarts j → IsOpened r jobs → IsClear (made ∷ j) → IsPredicted r made

-- What is true of it regardless of what arrived: a request ends once by the records, and the
-- numbers ascend in each.
pub record OnceOf {L : Type 0} (carry_of : L → Carry) (restart_of : L → Restarts) (ring : Ring L) (made : CycleView) : Type 0 where
  pub once : (r : RingView) (jobs : List Job) (carry : Carry) (restarts : Restarts) (j : List CycleView)
      → RingStandsFor carry_of restart_of ring r jobs carry restarts j → AreOnce made j

-- And what is true of it if no cycle of the run was disturbed so far.
pub record StartsUpOf {L : Type 0} (carry_of : L → Carry) (restart_of : L → Restarts) (ring : Ring L) (made : CycleView) : Type 0 where
  pub starts : (r : RingView) (jobs : List Job) (carry : Carry) (restarts : Restarts) (j : List CycleView)
      → RingStandsFor carry_of restart_of ring r jobs carry restarts j → IsOpened r jobs → NeverDisturbed r carry restarts (made ∷ j) →
      StartsUp r jobs carry restarts made j

-- And what is true of it regardless of losses and restarts, if nothing was undetected so far: once
-- no further cycle is disturbed, the ring is back in time.
pub record RecoversOf {L : Type 0} (carry_of : L → Carry) (restart_of : L → Restarts) (ring : Ring L) (made : CycleView) : Type 0 where
  pub recovers : (r : RingView) (jobs : List Job) (carry : Carry) (restarts : Restarts) (j : List CycleView)
      → RingStandsFor carry_of restart_of ring r jobs carry restarts j → IsOpened r jobs → IsClear (made ∷ j) →
      RecoversIn r jobs carry restarts made j

-- And what is true of its drives and of the master's falls, regardless of what arrived; and of the
-- ATs, if nothing was undetected so far.
pub record StationsOf {L : Type 0} (carry_of : L → Carry) (restart_of : L → Restarts) (ring : Ring L) (made : CycleView) : Type 0 where
  pub drives : (r : RingView) (jobs : List Job) (carry : Carry) (restarts : Restarts) (j : List CycleView)
      → RingStandsFor carry_of restart_of ring r jobs carry restarts j → IsOpened r jobs → DrivesArePlain r carry restarts made j
  pub falls : (r : RingView) (jobs : List Job) (carry : Carry) (restarts : Restarts) (j : List CycleView)
      → RingStandsFor carry_of restart_of ring r jobs carry restarts j → IsOpened r jobs → FallsForCause r jobs carry restarts made j
  pub alone : (r : RingView) (jobs : List Job) (carry : Carry) (restarts : Restarts) (j : List CycleView)
      → RingStandsFor carry_of restart_of ring r jobs carry restarts j → IsOpened r jobs → IsClear (made ∷ j) → IsAlone made j

-- And what is true of it while faults go on, if nothing was undetected so far: as long as the
-- disturbed cycles are sparse, the ring tolerates them.
pub record BearsOf {L : Type 0} (carry_of : L → Carry) (restart_of : L → Restarts) (ring : Ring L) (made : CycleView) : Type 0 where
  pub bears : (r : RingView) (jobs : List Job) (carry : Carry) (restarts : Restarts) (j : List CycleView)
      → RingStandsFor carry_of restart_of ring r jobs carry restarts j → IsOpened r jobs → IsClear (made ∷ j) →
      BearsIn r jobs carry restarts made j

-- And what is true of it after faults that aren't sparse, while sparse ones go on: at most one fall
-- follows the last of them, and the ring is back in time.
pub record ReturnsOf {L : Type 0} (carry_of : L → Carry) (restart_of : L → Restarts) (ring : Ring L) (made : CycleView) : Type 0 where
  pub returns : (r : RingView) (jobs : List Job) (carry : Carry) (restarts : Restarts) (j : List CycleView)
      → RingStandsFor carry_of restart_of ring r jobs carry restarts j → IsOpened r jobs → IsClear (made ∷ j)
      → ReturnsSparse r jobs carry restarts made j
