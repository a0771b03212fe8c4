-- The parts of a ring, and how they are related to the cycles that it has made. Used in proofs
-- only.
use Rattle.std.specs.Prelude.{◌≡◌, ℕ, List, length, true}
use Rattle.sercos_step.specs.declared.request.Job.{Job}
use Rattle.sercos_block.specs.Views.{RingView}
use Rattle.sercos_block.specs.Rings.{is_ring}
use Rattle.sercos_trace.specs.Views.{CycleView}
use Rattle.sercos_drive.specs.Kept.{DriveState}
use Rattle.sercos_seat.specs.Ring.{known_of}
use Rattle.sercos_master.specs.declared.master.AnyMaster.{AnyMaster}
use Rattle.sercos_master.specs.Any.{AnyStandsFor}
use Rattle.sercos_script.specs.Links.{Carry, Restarts}
use Rattle.sercos_law_run.specs.Journal.Runs.{drive_at, master_calls, given_before, IsRun}
use Rattle.sercos_ring.specs.Stations.{AllStand, addresses_below}

-- What a link carries and which stations it restarts; the number of the cycle, the rate and the
-- addresses; the drives and the master. All are as they are after the ring's opening with these
-- arguments, and after its cycles, the newest first.
pub record PartsStandFor (carries : Carry) (restarting : Restarts) (cycle rate : ℕ)
    (addresses : List ℕ) (drives : List DriveState) (master : AnyMaster) (r : RingView) (jobs : List Job) (carry : Carry)
    (restarts : Restarts) (j : List CycleView) : Type 0 where
  pub carry_is : carries ≡ carry
  pub restarts_is : restarting ≡ restarts
  pub cycle_is : cycle ≡ length j
  pub rate_is : rate ≡ r.rate
  pub addresses_are : addresses ≡ addresses_below (length r.drives) (drive_at r)
  pub count_is : length drives ≡ length r.drives
  pub drives_stand : AllStand drives (drive_at r) r.rate (given_before carry restarts j)
  pub master_stands : AnyStandsFor master (known_of r) jobs (master_calls r carry restarts j)
  pub valid : is_ring r ≡ true
  pub run : IsRun r jobs carry restarts j
