-- The bytes that are reported of reads of operation data. Journals and lists of requests and steps have their newest item first.
use Rattle.std.specs.Prelude.{◌≡◌, ℕ, ◌+◌, ◌<◌, false, List, ◌∷◌, ◌++◌, length, Some, slice_get}
use Rattle.sercos_idn.specs.declared.idn.Idn.{Idn}
use Rattle.sercos_idn.specs.Elements.{data_element}
use Rattle.sercos_step.specs.declared.request.Request.TheVariants as request
use Rattle.sercos_step.specs.declared.request.Job.{Job}
use Rattle.sercos_step.specs.declared.request.Outcome.TheVariants as outcome
use Rattle.sercos_step.specs.Steps.{outcome_of, steps_before}
use Rattle.sercos_block.specs.declared.block.Block.{Block}
use Rattle.sercos_block.specs.Views.{RingView}
use Rattle.sercos_block.specs.Stores.{find_block}
use Rattle.sercos_service_master.specs.Begun.{Begun}
use Rattle.sercos_service_drive.specs.Log.{Entry}
use Rattle.sercos_drive.specs.Annals.{store_at}
use Rattle.sercos_script.specs.Links.{Carry, Restarts}
use Rattle.sercos_trace.specs.Views.{CycleView}
use Rattle.sercos_seat.specs.Ring.{Task}
use Rattle.sercos_law_run.specs.Agenda.Events.{HasOutcome}
use Rattle.sercos_law_channel.specs.Handshake.Parts.{IsPart, AreParts}
use Rattle.sercos_law_channel.specs.Handshake.ReadTransfers.{entry_behind, element_in}
use Rattle.sercos_law_channel.specs.Handshake.WholeRun.{all_begun, all_entries}
use Rattle.sercos_law_run.specs.Journal.Runs.{IsRun, IsClear, drive_at, given_mst}
use Rattle.sercos_law_run.specs.Views.RingViews.{behind_mdt, views_of}
use Rattle.sercos_law_run.specs.Held.Opened.{IsOpened}
use Rattle.sercos_backup.specs.Tracking.{told_of}
use Rattle.sercos_law_trace.specs.Told.Told.{told_in}

-- The request with number n + 1, a read of the operation data of a block of the drive with this address, has ended with these bytes. They
-- are the operation data of the block in the drive's store, in the one cycle in which the drive accepted the selection of that request's
-- own transfer.
pub record IsReadFrom (r : RingView) (jobs : List Job) (carry : Carry) (restarts : Restarts) (run : List CycleView) (n address : ℕ)
    (idn : Idn) (bytes : List ℕ) : Type 0 where
  -- the drive
  pub place : ℕ
  pub below : place < length r.drives
  pub drive : (drive_at r place).address ≡ address
  -- the cycle in which the outcome of the request is reported
  pub since : List CycleView
  pub told : CycleView
  pub before : List CycleView
  pub up_to : run ≡ since ++ told ∷ before
  pub is_told : HasOutcome told.events.outcomes (n + 1) (outcome.Complete bytes)
  -- The request's transfer, among all that were begun to the drive up to that cycle, through all falls and restarts. The newest of them
  -- are those of the tasks that the master has begun since its last fall or restart, in the same order. The task of this one has the
  -- number of the request.
  pub later : List Begun
  pub begun : Begun
  pub earlier : List Begun
  pub among : all_begun (views_of r jobs carry restarts place (told ∷ before)) ≡ later ++ begun ∷ earlier
  pub task : Task
  pub is_of : slice_get ((behind_mdt r jobs carry restarts told.sent before).tasks place) (length later) ≡ Some task
  pub number : task.number ≡ Some (n + 1)
  pub asked : begun.request ≡ request.Read idn data_element
  pub ended : outcome_of begun.request begun.answers ≡ Some (outcome.Complete bytes)
  -- The steps that the drive accepted in the cycles before that one are the parts of these transfers, one after the other. This is the
  -- part of the request's transfer.
  pub after : List Entry
  pub part : List Entry
  pub behind : List Entry
  pub accepted : all_entries (views_of r jobs carry restarts place before) ≡ after ++ part ++ behind
  pub later_parts : AreParts later after
  pub part_of : IsPart begun part
  pub earlier_parts : AreParts earlier behind
  -- The selection is the fourth step of it: after the opening and the two steps that read the attribute. It reads the operation data.
  pub selection : Entry
  pub selects : entry_behind (steps_before data_element) part ≡ Some selection
  pub reads : selection.processed.step.write ≡ false
  pub element : selection.processed.step.element ≡ data_element
  -- The drive accepted the selection in this cycle. The drive's store then had this block, with these bytes as operation data.
  pub newer : List CycleView
  pub cycle : CycleView
  pub older : List CycleView
  pub cut : before ≡ newer ++ cycle ∷ older
  pub at : selection.processed.cycle ≡ length older
  pub block : Block
  pub found : find_block idn.raw (store_at (drive_at r place) r.rate (given_mst carry restarts cycle.sent older place)) ≡ Some block
  pub gives : bytes ≡ element_in data_element (length older) block

-- This holds of every complete read of operation data, in every run without undetected damage, regardless of losses and restarts.
abbrev pub ReadsAreExact : Type 0
ReadsAreExact = (r : RingView) (jobs : List Job) (carry : Carry) (restarts : Restarts) (run : List CycleView) (n : ℕ) (job : Job)
    (idn : Idn) (bytes : List ℕ) →
    IsOpened r jobs → IsRun r jobs carry restarts run → IsClear run → slice_get jobs n ≡ Some job →
    job.request ≡ request.Read idn data_element →
    told_of (told_in run) (n + 1) ≡ Some (outcome.Complete bytes) → IsReadFrom r jobs carry restarts run n job.drive idn bytes
