-- What is known of the runs of a backup and of a restore.
use Rattle.std.specs.Prelude.{◌≡◌, ℕ, ◌≤◌, true, List, length, Some, Ok, slice_get}
use Rattle.sercos_idn.specs.declared.idn.Idn.{Idn}
use Rattle.sercos_idn.specs.Elements.{data_element}
use Rattle.sercos_step.specs.declared.request.Request.TheVariants as request
use Rattle.sercos_step.specs.declared.request.Job.{Job}
use Rattle.sercos_step.specs.declared.request.Outcome.TheVariants as outcome
use Rattle.sercos_block.specs.Views.{RingView}
use Rattle.sercos_script.specs.Links.{Carry, Restarts}
use Rattle.sercos_trace.specs.Views.{CycleView}
use Rattle.sercos_law_trace.specs.Told.Writes.{stored as filled}
use Rattle.sercos_law_run.specs.Journal.Runs.{IsClear, run_of}
use Rattle.sercos_law_run.specs.Undisturbed.WholeRuns.{NeverDisturbed}
use Rattle.sercos_step.specs.Steps.{AreTypedJobs}
use Rattle.sercos_config.specs.Views.{DocumentView}
use Rattle.sercos_config.specs.Document.{document_of}
use Rattle.sercos_backup.specs.declared.tracked.Tracked.{Tracked}
use Rattle.sercos_backup.specs.Jobs.{list_jobs, data_jobs}
use Rattle.sercos_backup.specs.Tracking.{are_well, lists_told}
use Rattle.sercos_law_trace.specs.Told.Reads.{IsReadFrom}
use Rattle.sercos_law_trace.specs.Told.Writes.{IsLastTo, IsRestored}
use Rattle.sercos_opened.specs.Kept.{IsKept, script_carry, script_restarts}
use Rattle.sercos_app.specs.Saving.{run_tracked, last_data}
use Rattle.sercos_app.specs.EndsWell.{EndsWell, IsLongEnough}

-- the requests of a backup's second run: for the blocks on the lists that the first one gave
abbrev pub second_jobs : RingView → Carry → Restarts → List Job
second_jobs r carry restarts = data_jobs (lists_told (run_tracked r (list_jobs r) carry restarts))

-- requests keep their types' ranges, if they are few enough for a run
abbrev pub AreTypedIfFew : List Job → Type 0
AreTypedIfFew jobs = length jobs ≤ 4096 → AreTypedJobs jobs

-- the same of those of a backup's second run, if it is made
abbrev pub ReadsTyped : RingView → Carry → Restarts → Type 0
ReadsTyped r carry restarts = are_well true (run_tracked r (list_jobs r) carry restarts) ≡ true →
    AreTypedIfFew (second_jobs r carry restarts)

-- If nothing was unseen in the run, the bytes of each complete request are those that the drive's store had in the one cycle in which
-- the drive accepted the selection of that request's own transfer.
abbrev pub AreReadFrom : RingView → List Job → Carry → Restarts → Type 0
AreReadFrom r jobs carry restarts = IsClear (run_of r jobs carry restarts r.cycles) → (n : ℕ) (t : Tracked) (bytes : List ℕ) →
    slice_get (run_tracked r jobs carry restarts) n ≡ Some t → t.outcome ≡ Some (outcome.Complete bytes)
    → IsReadFrom r jobs carry restarts (run_of r jobs carry restarts r.cycles) n t.drive t.idn bytes

-- A run of reads: it is one, in which all is kept that is promised; what is read in it is exact; and it ends well.
pub record IsReadRun (r : RingView) (jobs : List Job) (carry : Carry) (restarts : Restarts) : Type 0 where
  pub kept : IsKept r jobs carry restarts (run_of r jobs carry restarts r.cycles)
  pub exact : AreReadFrom r jobs carry restarts
  pub ends : EndsWell r jobs carry restarts

-- no arrival is unseen in either run of a backup; the second one is made only if the lists were read, and aren't too long
pub record AreClear (r : RingView) (carry : Carry) (restarts : Restarts) : Type 0 where
  pub lists : IsClear (run_of r (list_jobs r) carry restarts r.cycles)
  pub blocks : are_well true (run_tracked r (list_jobs r) carry restarts) ≡ true → length (second_jobs r carry restarts) ≤ 4096 →
      IsClear (run_of r (second_jobs r carry restarts) carry restarts r.cycles)

-- A run of a ring with these requests has cycles enough for them, and nothing is disturbed in it; and so each run of a backup that is made.
pub record GoesWell (r : RingView) (jobs : List Job) (carry : Carry) (restarts : Restarts) : Type 0 where
  pub long : IsLongEnough r jobs
  pub calm : NeverDisturbed r carry restarts (run_of r jobs carry restarts r.cycles)

pub record GoWell (r : RingView) (carry : Carry) (restarts : Restarts) : Type 0 where
  pub lists : GoesWell r (list_jobs r) carry restarts
  pub blocks : are_well true (run_tracked r (list_jobs r) carry restarts) ≡ true → length (second_jobs r carry restarts) ≤ 4096 →
      GoesWell r (second_jobs r carry restarts) carry restarts

-- Both runs of a backup are such runs.
pub record IsSaved (r : RingView) (carry : Carry) (restarts : Restarts) : Type 0 where
  pub lists : IsReadRun r (list_jobs r) carry restarts
  pub blocks : are_well true (run_tracked r (list_jobs r) carry restarts) ≡ true → length (second_jobs r carry restarts) ≤ 4096 →
      IsReadRun r (second_jobs r carry restarts) carry restarts

abbrev pub SavesItsRing : List ℕ → Type 0
SavesItsRing bytes = (d : DocumentView) → document_of bytes ≡ Ok d → IsSaved d.setup (script_carry d) (script_restarts d)

-- The drive with this address has a block with this number. After the last cycle its store has these bytes as operation data of the block,
-- filled as a write fills them; and so it is printed.
pub record IsPrinted (r : RingView) (carry : Carry) (restarts : Restarts) (run : List CycleView) (address raw : ℕ)
    (bytes : List ℕ) : Type 0 where
  pub stored : IsRestored r carry restarts run address raw bytes
  pub printed : last_data r carry restarts run address raw ≡ filled stored.block bytes

-- If nothing was unseen in the run: so it is with each complete write, if no later request to the drive writes to the block.
abbrev pub AreWritesKept : RingView → List Job → Carry → Restarts → Type 0
AreWritesKept r jobs carry restarts = IsClear (run_of r jobs carry restarts r.cycles) →
    (n : ℕ) (job : Job) (t : Tracked) (idn : Idn) (bytes whole : List ℕ) → slice_get jobs n ≡ Some job →
    job.request ≡ request.Write idn data_element bytes
    → slice_get (run_tracked r jobs carry restarts) n ≡ Some t → t.outcome ≡ Some (outcome.Complete whole) →
    IsLastTo jobs n job.drive idn.raw
    → IsPrinted r carry restarts (run_of r jobs carry restarts r.cycles) job.drive idn.raw bytes

-- A run of writes: it is one, in which all is kept that is promised; what is written in it is kept; and it ends well.
pub record IsRestoredRun (r : RingView) (jobs : List Job) (carry : Carry) (restarts : Restarts) : Type 0 where
  pub kept : IsKept r jobs carry restarts (run_of r jobs carry restarts r.cycles)
  pub writes : AreWritesKept r jobs carry restarts
  pub ends : EndsWell r jobs carry restarts

abbrev pub RestoresItsRing : List ℕ → Type 0
RestoresItsRing bytes = (d : DocumentView) → document_of bytes ≡ Ok d → IsRestoredRun d.setup d.jobs (script_carry d) (script_restarts d)
