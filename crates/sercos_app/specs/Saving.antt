-- What `backup` and `restore` answer to a ring document. Journals have their newest cycle first.
use Rattle.std.specs.Prelude.{ℕ, ◌-◌, ◌==◌, nat_le, true, if◌then◌else◌, List, [], length, Option, Some, None, Result, Ok, Err}
use Rattle.std.specs.List.{position}
use Rattle.sercos_io.specs.declared.status.Status.TheVariants.{Refused}
use Rattle.sercos_step.specs.declared.request.Job.{Job}
use Rattle.sercos_block.specs.declared.block.Block.{Block}
use Rattle.sercos_block.specs.Views.{DriveView, RingView}
use Rattle.sercos_block.specs.Stores.{find_block}
use Rattle.sercos_service_drive.specs.Replies.{data_in}
use Rattle.sercos_drive.specs.Annals.{store_at}
use Rattle.sercos_script.specs.Links.{Carry, Restarts}
use Rattle.sercos_trace.specs.Views.{CycleView}
use Rattle.sercos_law_run.specs.Journal.Runs.{run_of, drive_at, given_before}
use Rattle.sercos_document.specs.declared.refusal.BadDocument.{BadDocument}
use Rattle.sercos_document.specs.Lines.{line_of}
use Rattle.sercos_config.specs.Views.{DocumentView}
use Rattle.sercos_config.specs.Document.{document_of}
use Rattle.sercos_answer.specs.Answer.{Answer}
use Rattle.sercos_backup.specs.declared.tracked.Tracked.{Tracked}
use Rattle.sercos_backup.specs.Jobs.{list_jobs, data_jobs, place_of_other}
use Rattle.sercos_backup.specs.Tracking.{tracked, are_well, lists_told}
use Rattle.sercos_backup.specs.Texts.{failed_answer, many_answer, saved_answer, restored_answer, other_answer}
use Rattle.sercos_law_trace.specs.Told.Told.{told_in}
use Rattle.sercos_opened.specs.Kept.{script_carry, script_restarts}

-- requests, each with its outcome in the run of a ring, for the ring's number of cycles
abbrev pub run_tracked : RingView → List Job → Carry → Restarts → List Tracked
run_tracked r jobs carry restarts = tracked (told_in (run_of r jobs carry restarts r.cycles)) jobs

-- BACKUP. In a first run the lists of all drives are read; a drive without one has an empty list. If one can't be read, nothing more is
-- done. Otherwise the blocks on these lists are read in a second run, if they aren't too many.
unfoldable pub data_answer : RingView → Carry → Restarts → List Job → Answer
data_answer r carry restarts jobs = if nat_le (length jobs) 4096 then saved_answer (run_tracked r jobs carry restarts)
    else many_answer (length jobs)

unfoldable pub lists_answer : RingView → Carry → Restarts → List Tracked → Answer
lists_answer r carry restarts lists = if are_well true lists then data_answer r carry restarts (data_jobs (lists_told lists))
    else failed_answer true lists

abbrev pub ring_saved : RingView → List Job → Carry → Restarts → Answer
ring_saved r jobs carry restarts = lists_answer r carry restarts (run_tracked r (list_jobs r) carry restarts)

-- RESTORE. The blocks that the drive with an address has after the cycles of a journal.
abbrev pub blocks_at : RingView → Carry → Restarts → List CycleView → Option ℕ → List Block
blocks_at r carry restarts j None = []
blocks_at r carry restarts j (Some k) = store_at (drive_at r k) r.rate (given_before carry restarts j k)

abbrev pub place_of : RingView → ℕ → Option ℕ
place_of r address = position (λ (d : DriveView). d.address == address) r.drives

-- the operation data of a block in a cycle; none without the block
abbrev pub data_of : ℕ → Option Block → List ℕ
data_of cycle None = []
data_of cycle (Some b) = data_in cycle b

-- the operation data that the drive with an address has in a block, in the last cycle of a ring
abbrev pub last_data : RingView → Carry → Restarts → List CycleView → ℕ → ℕ → List ℕ
last_data r carry restarts j address raw = data_of (r.cycles - 1) (find_block raw (blocks_at r carry restarts j (place_of r address)))

-- the answer to the requests of a document, of which one at a place, if there is one, writes no operation data
unfoldable pub writes_answer : RingView → List Job → Carry → Restarts → Option ℕ → Answer
writes_answer r jobs carry restarts None = restored_answer (last_data r carry restarts (run_of r jobs carry restarts r.cycles))
    (run_tracked r jobs carry restarts)
writes_answer r jobs carry restarts (Some place) = other_answer place

abbrev pub ring_restored : RingView → List Job → Carry → Restarts → Answer
ring_restored r jobs carry restarts = writes_answer r jobs carry restarts (place_of_other jobs)

-- what is answered to a document, or to its refusal, if a ring is answered so: over the script of the document, and no other link
unfoldable pub answer_by : (RingView → List Job → Carry → Restarts → Answer) → Result DocumentView BadDocument → Answer
answer_by answer (Ok d) = answer d.setup d.jobs (script_carry d) (script_restarts d)
answer_by answer (Err bad) = record { status = Refused; output = line_of bad }

-- the answers to a document
unfoldable pub backup_answer : List ℕ → Answer
backup_answer bytes = answer_by ring_saved (document_of bytes)

unfoldable pub restore_answer : List ℕ → Answer
restore_answer bytes = answer_by ring_restored (document_of bytes)
