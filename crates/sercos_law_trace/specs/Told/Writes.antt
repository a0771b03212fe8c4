-- What complete writes of operation data leave at the end of a run. Journals have their newest item first.
use Rattle.std.specs.Prelude.{◌≡◌, ℕ, ◌+◌, ◌<◌, ◌==◌, Bool, false, List, length, Some, slice_get}
use Rattle.sercos_idn.specs.declared.idn.Idn.{Idn}
use Rattle.sercos_idn.specs.Elements.{data_element}
use Rattle.sercos_step.specs.declared.request.Request.{Request}
use Rattle.sercos_step.specs.declared.request.Request.TheVariants as request
use Rattle.sercos_step.specs.declared.request.Job.{Job}
use Rattle.sercos_step.specs.declared.request.Outcome.TheVariants as outcome
use Rattle.sercos_block.specs.declared.block.Block.{Block}
use Rattle.sercos_block.specs.Views.{RingView}
use Rattle.sercos_block.specs.Stores.{find_block, store_of}
use Rattle.sercos_service_drive.specs.Replies.{data_in}
use Rattle.sercos_drive.specs.Annals.{store_at}
use Rattle.sercos_script.specs.Links.{Carry, Restarts}
use Rattle.sercos_trace.specs.Views.{CycleView}
pub use Rattle.sercos_law_channel.specs.Handshake.Transfers.{stored}
use Rattle.sercos_law_run.specs.Journal.Runs.{IsRun, IsClear, drive_at, given_before}
use Rattle.sercos_law_run.specs.Held.Opened.{IsOpened}
use Rattle.sercos_backup.specs.Tracking.{told_of}
use Rattle.sercos_law_trace.specs.Told.Told.{told_in}

-- whether a request writes to the block with this number, or sets it
abbrev pub writes_to : ℕ → Request → Bool
writes_to raw (request.Read idn e) = false
writes_to raw (request.Write idn e bytes) = idn.raw == raw
writes_to raw (request.Command idn) = idn.raw == raw

-- no request after this place, to the drive with this address, writes to that block
abbrev pub IsLastTo : List Job → ℕ → ℕ → ℕ → Type 0
IsLastTo jobs n address raw = (m : ℕ) (job : Job) → n < m → slice_get jobs m ≡ Some job → job.drive ≡ address →
    writes_to raw job.request ≡ false

-- The drive with this address has a block with this number, and after the cycles of a run its store has these bytes as operation data of
-- the block, filled as a write fills them. They don't change by themselves from cycle to cycle.
pub record IsRestored (r : RingView) (carry : Carry) (restarts : Restarts) (run : List CycleView) (address raw : ℕ)
    (bytes : List ℕ) : Type 0 where
  pub place : ℕ
  pub below : place < length r.drives
  pub drive : (drive_at r place).address ≡ address
  pub block : Block
  pub found : find_block raw (store_of (drive_at r place)) ≡ Some block
  pub now : Block
  pub holds : find_block raw (store_at (drive_at r place) r.rate (given_before carry restarts run place)) ≡ Some now
  pub written : (cycle : ℕ) → data_in cycle now ≡ stored block bytes

-- So it is with each complete write of operation data, if no later request to the drive writes to the block: in every run in which nothing
-- was unseen, through all falls, restarts and start-ups.
abbrev pub WritesAreKept : Type 0
WritesAreKept = (r : RingView) (jobs : List Job) (carry : Carry) (restarts : Restarts) (run : List CycleView) (n : ℕ) (job : Job)
    (idn : Idn) (bytes whole : List ℕ) →
    IsOpened r jobs → IsRun r jobs carry restarts run → IsClear run → slice_get jobs n ≡ Some job →
    job.request ≡ request.Write idn data_element bytes →
    told_of (told_in run) (n + 1) ≡ Some (outcome.Complete whole) → IsLastTo jobs n job.drive idn.raw →
    IsRestored r carry restarts run job.drive idn.raw bytes
