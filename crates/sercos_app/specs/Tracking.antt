-- What is noted of the requests while a ring makes its cycles. `stands` relates a ring to what it
-- stands for.
use Rattle.std.specs.Prelude.{◌≡◌, ℕ, List, []}
use Rattle.sercos_step.specs.declared.request.Job.{Job}
use Rattle.sercos_block.specs.Views.{RingView}
use Rattle.sercos_trace.specs.Views.{CycleView}
use Rattle.sercos_script.specs.Links.{Carry, Restarts}
use Rattle.sercos_backup.specs.declared.tracked.Tracked.{Tracked}
use Rattle.sercos_backup.specs.Tracking.{tracked}
use Rattle.sercos_app.specs.Journals.{Journal}
use Rattle.sercos_law_trace.specs.Told.Told.{told_in}

-- a ring has made n cycles, and the outcomes that were reported in them are noted
pub record HasNoted {R : Type 0} (stands : R → RingView → List Job → Carry → Restarts → List CycleView → Type 0) (old new : R) (n : ℕ)
    (before after : List Tracked) : Type 0 where
  pub journal : Journal stands old new n
  pub noted : (jobs : List Job) → before ≡ tracked [] jobs → after ≡ tracked (told_in journal.cycles) jobs
