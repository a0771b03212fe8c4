-- What a ring is opened with.
use Rattle.std.specs.Prelude.{◌≡◌, ℕ, ◌<◌, true, List, length, Some, slice_get}
use Rattle.sercos_step.specs.declared.request.Job.{Job}
use Rattle.sercos_block.specs.Stores.{store_of}
use Rattle.sercos_block.specs.Views.{RingView}
use Rattle.sercos_block.specs.Rings.{is_ring}
use Rattle.sercos_seat.specs.Ring.{Task, known_of, tasks_for}
use Rattle.sercos_law_channel.specs.Handshake.WholeRun.{IsSound}
use Rattle.sercos_law_run.specs.Journal.Runs.{drive_at}
use Rattle.sercos_step.specs.Steps.{AreTypedJobs}
use Rattle.sercos_law_run.specs.Typed.Typed.{AreTyped}

-- The setup is valid, setup and requests keep their types' ranges, and each request to a drive may be made: what it sets is a
-- procedure command of the drive, or a block that the drive lacks.
pub record IsOpened (r : RingView) (jobs : List Job) : Type 0 where
  pub valid : is_ring r ≡ true
  pub typed : AreTyped r
  pub jobs_typed : AreTypedJobs jobs
  pub requests : (k i : ℕ) (t : Task) → k < length r.drives → slice_get (tasks_for (known_of r) jobs k) i ≡ Some t →
      IsSound (store_of (drive_at r k)) t.request
