-- What the master keeps of one drive's channel in an epoch, and how that changes. Each list has its newest item first.
use Rattle.std.specs.Prelude.{◌≡◌, ℕ, ◌+◌, ◌<◌, ◌≤◌, Bool, true, false, if◌then◌else◌, List, [], ◌∷◌, length, drop, Option, Some, None, is_none, slice_get}
use Rattle.std.specs.Option.{option_or}
use Rattle.sercos_telegram.specs.declared.words.Status.{Status}
use Rattle.sercos_step.specs.declared.request.Outcome.{Outcome}
use Rattle.sercos_timing.specs.Views.{PlanView}
use Rattle.sercos_service_master.specs.Begun.{Begun, open_in, answers_it, answer_in, outcome_with}
use Rattle.sercos_service_master.specs.Calls.{begun_by}
use Rattle.sercos_law_channel.specs.Handshake.Moves.{with_status}
use Rattle.sercos_seat.specs.Ring.{Known, Task, member}
use Rattle.sercos_seat.specs.Agenda.{agenda, is_checked, is_ready}
use Rattle.sercos_seat.specs.Channel.{Report, count_requests, last_outcome, number_in, outcomes_in, report_of, trouble_by}
use Rattle.sercos_master.specs.Annals.{Call, Past, past}

-- The phase that is commanded; the requests to the drive that had not been begun when the epoch began; the plan, if there is
-- one; what was begun on the channel in this epoch, and its tasks; whether an AT was taken in this cycle, and the request that
-- this AT ended.
pub record Channel : Type 0 where
  pub phase : ℕ
  pub waiting : List Task
  pub plan : Option PlanView
  pub begun : List Begun
  pub tasks : List Task
  pub heard : Bool
  pub report : Option Report

-- the channel to the drive at place k
abbrev pub channel_at : Past → ℕ → Channel
channel_at p k = record {
  phase = p.now.phase;
  waiting = p.waiting k;
  plan = p.plan;
  begun = begun_by (p.calls k);
  tasks = p.tasks k;
  heard = p.now.heard k;
  report = p.now.report k;
}

-- an epoch begins
abbrev pub new_channel : List Task → Channel
new_channel waiting = record { phase = 0; waiting = waiting; plan = None; begun = []; tasks = []; heard = false; report = None }

-- the outcome that a status brings, if it ends the transfer that is open
abbrev pub outcome_in : List Begun → Status → ℕ → Option Outcome
outcome_in begun status word = if answers_it begun status then outcome_with (answer_in status word) begun else None

-- a status is received
abbrev pub hearing : Status → ℕ → Channel → Channel
hearing status word c = record c {
  begun = with_status status word c.begun;
  heard = true;
  report = option_or (report_of (outcome_in c.begun status word) (number_in c.tasks)) c.report;
}

-- a task begins
abbrev pub beginning : Task → Channel → Channel
beginning t c = record c { begun = (record { request = t.request; answers = [] }) ∷ c.begun; tasks = t ∷ c.tasks }

-- The task is the next one of the agenda and belongs to the commanded phase. No step is open, and what ended last brought no stop.
pub record IsNextTask (s : Known) (k : ℕ) (c : Channel) (t : Task) : Type 0 where
  pub two : 2 ≤ c.phase
  pub idle : is_none (open_in c.begun) ≡ true
  pub next : slice_get (agenda s c.plan c.waiting k (outcomes_in c.begun)) (length (outcomes_in c.begun)) ≡ Some t
  pub in_phase : t.phase ≡ c.phase
  pub well : trouble_by (member s k).address c.tasks (last_outcome c.begun) ≡ None

-- the cycle ends
abbrev pub ending : Bool → Channel → Channel
ending rises c = record c { phase = if rises then c.phase + 1 else c.phase; heard = false; report = None }

-- the phase may rise as far as this drive is concerned
pub record IsDoneWith (s : Known) (k : ℕ) (c : Channel) : Type 0 where
  pub below : c.phase < 4
  pub checked : c.phase ≡ 2 → is_checked (member s k) (outcomes_in c.begun) ≡ true
  pub ready : c.phase ≡ 3 → is_ready (member s k) (outcomes_in c.begun) ≡ true

-- What happens to a channel within a cycle: nothing; the drive is identified; a status is received, the first in this cycle; the
-- plan is made; or a task begins.
pub data Steps (s : Known) (k : ℕ) (c d : Channel) : Type 0 where
  Stays : d ≡ c → Steps s k c d
  Identifies : d ≡ record c { heard = true } → Steps s k c d
  Hears : (status : Status) → (word : ℕ) → c.heard ≡ false → d ≡ hearing status word c → Steps s k c d
  Plans : (plan : PlanView) → c.plan ≡ None → c.phase ≡ 2 → d ≡ record c { plan = Some plan } → Steps s k c d
  Begins : (t : Task) → IsNextTask s k c t → d ≡ beginning t c → Steps s k c d

-- A move of a channel: a step within a cycle; the end of a cycle, at which the phase rises or stays; or the end of the epoch, after
-- which only those requests wait that had not been begun.
pub data Moves (s : Known) (k : ℕ) (c d : Channel) : Type 0 where
  Within : Steps s k c d → Moves s k c d
  Ends : (rises : Bool) → (rises ≡ true → IsDoneWith s k c) → d ≡ ending rises c → Moves s k c d
  Falls : d ≡ new_channel (drop (count_requests c.tasks) c.waiting) → Moves s k c d

-- the newest of these channels, or the one before them
abbrev pub newest : Channel → List Channel → Channel
newest first [] = first
newest first (c ∷ past) = c

-- each of these channels follows from the one before by a move
abbrev pub AreMoves : Known → ℕ → Channel → List Channel → Type 0
AreMoves s k first [] = Unit {0}
AreMoves s k first (c ∷ past) = AreMoves s k first past × Moves s k (newest first past) c

-- one channel follows from another by moves
abbrev pub GoesByMoves : Known → ℕ → Channel → Channel → Type 0
GoesByMoves s k c d = (channels : List Channel) × AreMoves s k c channels × (d ≡ newest c channels)

-- EACH CALL. Regardless of the calls of the master, the channel of each drive goes by moves.
abbrev pub CallsAreMoves : Type 0
CallsAreMoves = (s : Known) (requests : ℕ → List Task) (call : Call) (h : List Call) (k : ℕ) → k < length s.drives →
    GoesByMoves s k (channel_at (past s requests h) k) (channel_at (past s requests (call ∷ h)) k)
