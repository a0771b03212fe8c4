-- Within how many cycles of an undisturbed epoch the requests to a drive are reported. The newest cycle of a journal comes first.
use Rattle.std.specs.Prelude.{◌≡◌, ◌⊎◌, ℕ, ◌+◌, ◌*◌, ◌<◌, ◌≤◌, List, [], ◌∷◌, ◌++◌, length, Option, Some, slice_get}
use Rattle.sercos_step.specs.declared.request.Job.{Job}
use Rattle.sercos_step.specs.declared.request.Outcome.{Outcome}
use Rattle.sercos_block.specs.Startup.{request_steps, startup_bound}
use Rattle.sercos_block.specs.Views.{RingView}
use Rattle.sercos_trace.specs.Views.{CycleView}
use Rattle.sercos_seat.specs.Ring.{Task}
use Rattle.sercos_script.specs.Links.{Carry, Restarts}
use Rattle.sercos_law_run.specs.Journal.Runs.{drive_at, master_calls, looks_back, IsRun, IsClear}
use Rattle.sercos_law_run.specs.Agenda.Channels.{channel_at}
use Rattle.sercos_law_run.specs.Agenda.Events.{HasOutcome}
use Rattle.sercos_law_run.specs.Agenda.Reported.{still_to_tell}
use Rattle.sercos_law_run.specs.Held.Opened.{IsOpened}
use Rattle.sercos_law_run.specs.Undisturbed.Undisturbed.{AreUndisturbed}
use Rattle.sercos_law_run.specs.Undisturbed.EpochStarts.{StartsEpoch}

-- The requests to the drive at place k that haven't been begun, where an epoch begins after these cycles or is in phase 0 after them, in
-- their order. At the opening these are all requests to the drive.
abbrev pub waiting_after : RingView → List Job → Carry → Restarts → List CycleView → ℕ → List Task
waiting_after r jobs carry restarts before k = (looks_back r jobs (master_calls r carry restarts before)).waiting k

-- The numbers of the requests to the drive at place k that aren't reported after these cycles, in their order: that of the request at work,
-- and those of the ones that wait.
abbrev pub left_after : RingView → List Job → Carry → Restarts → List CycleView → ℕ → List (Option ℕ)
left_after r jobs carry restarts j k = still_to_tell (channel_at (looks_back r jobs (master_calls r carry restarts j)) k)

-- the record of one of these cycles has an outcome of the request with this number
abbrev pub HaveTold : List CycleView → ℕ → Type 0
HaveTold [] number = ⊥
HaveTold (t ∷ cycles) number = ((o : Outcome) × HasOutcome t.events.outcomes number o) ⊎ HaveTold cycles number

-- the cycles that this profile allows one request to the drive at place k, by its busy time and the time of its commands
abbrev pub request_cycles : RingView → ℕ → ℕ
request_cycles r k = ((drive_at r k).busy + 2) * (request_steps + (drive_at r k).command)

-- THE REQUESTS ARE REPORTED IN TIME. Of the requests to a drive that wait where phase 0 is commanded next, take the one at place i, counted
-- from 0. If phase 4 is commanded, and the cycles from there on before this one are at least the bound of a start-up and i + 1 times the
-- cycles of one request, this request has been reported in one of them, or in this one.
abbrev pub ReportsInTime : Type 0
ReportsInTime = (r : RingView) (jobs : List Job) (carry : Carry) (restarts : Restarts) (t : CycleView) (cycles before : List CycleView) →
    IsOpened r jobs → IsRun r jobs carry restarts (t ∷ (cycles ++ before)) →
    IsClear (t ∷ (cycles ++ before)) → StartsEpoch r jobs carry restarts before → AreUndisturbed r carry restarts (t ∷ cycles) before →
    t.phase ≡ 4 →
    (k i : ℕ) (x : Task) → k < length r.drives → slice_get (waiting_after r jobs carry restarts before k) i ≡ Some x →
    startup_bound r + (i + 1) * request_cycles r k ≤ length cycles →
    (number : ℕ) × (x.number ≡ Some number) × HaveTold (t ∷ cycles) number
