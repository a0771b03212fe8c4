-- What is exact in a run without undetected damage so far. The newest cycle of a journal comes first, and so does the newest item of each
-- list.
use Rattle.std.specs.Prelude.{◌≡◌, ◌⊎◌, ℕ, ◌<◌, ◌≤◌, List, [], ◌∷◌, length, Some, is_some}
use Rattle.sercos_step.specs.declared.request.Job.{Job}
use Rattle.sercos_step.specs.declared.request.Outcome.{Outcome}
use Rattle.sercos_block.specs.Stores.{IsStore, store_of}
use Rattle.sercos_block.specs.Views.{RingView}
use Rattle.sercos_service_drive.specs.Log.{Entry}
use Rattle.sercos_service_drive.specs.Replies.{log_of}
use Rattle.sercos_service_master.specs.Calls.{begun_by}
use Rattle.sercos_drive.specs.Annals.{phase_at, writes_at, accepted_at}
use Rattle.sercos_trace.specs.Views.{CycleView}
use Rattle.sercos_seat.specs.Channel.{Report}
use Rattle.sercos_seat.specs.Ring.{known_of, tasks_for}
use Rattle.sercos_master.specs.Annals.{fall_of}
use Rattle.sercos_master.specs.Reports.{broken, restart_told}
use Rattle.sercos_script.specs.Links.{Carry, Restarts}
use Rattle.sercos_law_channel.specs.Handshake.InStep.{AreInStep}
use Rattle.sercos_law_channel.specs.Handshake.Views.{since_reset}
use Rattle.sercos_law_channel.specs.Handshake.Epochs.{epoch_begun, begun_in}
use Rattle.sercos_law_channel.specs.Handshake.WholeRun.{all_begun, all_entries, all_writes}
use Rattle.sercos_law_channel.specs.Handshake.Exact.{AreExact}
use Rattle.sercos_law_run.specs.Journal.Runs.{drive_at, given_before, master_calls, looks_back, no_events, restart_events}
use Rattle.sercos_law_run.specs.Agenda.Channels.{channel_at}
use Rattle.sercos_law_run.specs.Agenda.Tasks.{HasBegunTasks}
use Rattle.sercos_law_run.specs.Agenda.Events.{HasOutcome, HasReport, AreEquivalent}
use Rattle.sercos_law_run.specs.Agenda.Reported.{told, told_at_end, with_told, after_told, still_to_tell, task_numbers, Descend, IsReportOf}
use Rattle.sercos_law_run.specs.Views.RingViews.{behind_mdt, view_of, views_of}

-- each step that the drive accepted was accepted on blocks that keep the rules of a store
abbrev pub OnStores : List Entry → Type 0
OnStores [] = Unit {0}
OnStores (e ∷ entries) = OnStores entries × IsStore e.processed.blocks

-- EXACT. All transfers to the drive at place k that were begun so far, those of the start-up and those of the file, through all epochs:
-- with the steps that the drive accepted of them and with the drive's writes, which are the writes of these transfers and no others. A
-- complete read returns the element as the drive had it in the one cycle in which it accepted the selection; a complete write adds its
-- bytes, a complete command 3 and 0; a refused one adds nothing, and one that is open or broken the first of its writes. The same holds
-- with what was accepted and written before this cycle: all that a transfer needs that is complete in this cycle was in earlier ones.
-- What is begun in an epoch is what the master's channel has begun, at the end of a cycle and when its MDT is sent; and what was accepted
-- since the drive's reset is what the drive accepted.
pub record IsExactAt (r : RingView) (jobs : List Job) (carry : Carry) (restarts : Restarts) (t : CycleView) (j : List CycleView)
    (k : ℕ) : Type 0 where
  pub exact : AreExact (store_of (drive_at r k)) (all_begun (views_of r jobs carry restarts k (t ∷ j)))
      (all_entries (views_of r jobs carry restarts k (t ∷ j))) (all_writes (views_of r jobs carry restarts k (t ∷ j)))
  pub before : AreExact (store_of (drive_at r k)) (all_begun (views_of r jobs carry restarts k (t ∷ j)))
      (all_entries (views_of r jobs carry restarts k j)) (all_writes (views_of r jobs carry restarts k j))
  pub writes : all_writes (views_of r jobs carry restarts k (t ∷ j)) ≡
      writes_at (drive_at r k) r.rate (given_before carry restarts (t ∷ j) k)
  pub accepted : log_of (since_reset (views_of r jobs carry restarts k (t ∷ j))) ≡
      accepted_at (drive_at r k) r.rate (given_before carry restarts (t ∷ j) k)
  pub begun : epoch_begun (views_of r jobs carry restarts k (t ∷ j)) ≡
      begun_by ((looks_back r jobs (master_calls r carry restarts (t ∷ j))).calls k)
  pub begun_now : begun_in (view_of r jobs carry restarts k t j) (views_of r jobs carry restarts k j) ≡
      begun_by ((behind_mdt r jobs carry restarts t.sent j).calls k)
  pub stored : OnStores (all_entries (views_of r jobs carry restarts k (t ∷ j)))

-- IN ORDER AND ONCE. What was reported of the requests to this drive, then the one at work, then those that wait, are the requests to
-- it in the order of the file; so no request is reported twice.
pub record IsToldAt (r : RingView) (jobs : List Job) (carry : Carry) (restarts : Restarts) (j : List CycleView) (k : ℕ) : Type 0 where
  pub in_order : after_told (told (known_of r) (tasks_for (known_of r) jobs) k (master_calls r carry restarts j))
      (still_to_tell (channel_at (looks_back r jobs (master_calls r carry restarts j)) k))
      ≡ task_numbers (tasks_for (known_of r) jobs k)
  pub once : Descend (told (known_of r) (tasks_for (known_of r) jobs) k (master_calls r carry restarts j))

-- THE REPORTS of a cycle. An outcome is in the events of its record iff a restart of the master or its end reported it of some drive; and
-- a request that is reported as ended was begun in this epoch, and ended so. What is begun on a channel are the tasks of its agenda, each
-- with the request of its task.
pub record AreReportedIn (r : RingView) (jobs : List Job) (carry : Carry) (restarts : Restarts) (t : CycleView)
    (j : List CycleView) : Type 0 where
  pub events : (number : ℕ) (o : Outcome) → AreEquivalent (HasOutcome t.events.outcomes number o)
      (HasOutcome (restart_events r jobs restarts (length j) (master_calls r carry restarts j)).outcomes number o
      ⊎ ((k : ℕ) × (k < length (known_of r).drives) ×
      HasReport (told_at_end (is_some (fall_of (known_of r) (behind_mdt r jobs carry restarts t.sent j)))
      ((behind_mdt r jobs carry restarts t.sent j).now.report k)
      (broken (behind_mdt r jobs carry restarts t.sent j) k) []) number o))
  pub at_restart : (number : ℕ) (o : Outcome) →
      AreEquivalent
      (HasOutcome (restart_told (known_of r) (looks_back r jobs (master_calls r carry restarts j)) no_events).outcomes number o)
      ((k : ℕ) × (k < length (known_of r).drives) ×
      HasReport (with_told (broken (looks_back r jobs (master_calls r carry restarts j)) k) []) number o)
  pub right : (k : ℕ) (x : Report) → k < length r.drives → (behind_mdt r jobs carry restarts t.sent j).now.report k ≡ Some x
      → IsReportOf x (begun_by ((behind_mdt r jobs carry restarts t.sent j).calls k)) ((behind_mdt r jobs carry restarts t.sent j).tasks k)
  pub tasks : (k : ℕ) → k < length r.drives → HasBegunTasks (known_of r) (behind_mdt r jobs carry restarts t.sent j) k

-- THE HANDSHAKE. In a cycle commanded 2 to 4 after which the drive is in 2 to 4: what it has accepted since its reset is all that the
-- master has sent to it in this epoch, or all but the last step; and each answer that the master took is the drive's to that step.
abbrev pub AreInStepAt : RingView → List Job → Carry → Restarts → CycleView → List CycleView → ℕ → Type 0
AreInStepAt r jobs carry restarts t j k =
    2 ≤ t.phase → 2 ≤ phase_at (drive_at r k) r.rate (given_before carry restarts (t ∷ j) k)
    → AreInStep (begun_by ((behind_mdt r jobs carry restarts t.sent j).calls k))
    (accepted_at (drive_at r k) r.rate (given_before carry restarts (t ∷ j) k))
