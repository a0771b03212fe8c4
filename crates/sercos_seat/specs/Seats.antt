-- What the master keeps of one drive, and how it is related to what was received from it. Used in
-- proofs only.
use Rattle.std.specs.Prelude.{reverse, unwrap_or, ◌-◌, slice_get, ◌*◌, sum_by, slice_index_or, ◌≡◌, ℕ, ◌+◌, ◌≤◌, ◌==◌, ◌++◌, nat_le, nat_lt, if◌then◌else◌, Bool, true, false, not, ◌&&◌, List, [], ◌∷◌, length, map, take, drop, min, Option, Some, None, is_some, option_map, is_none}
use Rattle.sercos_idn.specs.Elements.{data_element}
use Rattle.sercos_idn.specs.declared.idn.Idn.{Idn}
use Rattle.sercos_step.specs.declared.request.Outcome.{Outcome}
use Rattle.sercos_service_master.specs.Kept.{MasterView, MasterStandsFor}
use Rattle.std.specs.Option.{option_or}
use Rattle.sercos_telegram.specs.declared.words.Status.{Status}
use Rattle.sercos_telegram.specs.Words.{status_of}
use Rattle.sercos_telegram.specs.Spells.{word_at}
use Rattle.sercos_telegram.specs.Faults.{at_fault}
use Rattle.sercos_step.specs.declared.request.Request.{Request}
use Rattle.sercos_step.specs.declared.request.Request.TheVariants as request
use Rattle.sercos_service_master.specs.Calls.{Begin, Send, Hear, EndCycle, begun_by, outcome_at}
use Rattle.sercos_service_master.specs.Begun.{open_in, master_says}
use Rattle.sercos_service_master.specs.Calls as channel
use Rattle.sercos_timing.specs.Views.{PlanView}
use Rattle.sercos_block.specs.Rings.{telegram_len}
use Rattle.sercos_trace.specs.declared.events.Stop.{Stop}
use Rattle.sercos_trace.specs.declared.events.Stop.TheVariants as stop
use Rattle.sercos_seat.specs.declared.answers.Words.{Words}
use Rattle.sercos_seat.specs.declared.answers.Asked.{Asked}
use Rattle.sercos_seat.specs.declared.queue.Waiting.{Waiting}
use Rattle.sercos_seat.specs.Agenda.{agenda, asked_by, bytes_of, ended_well, given, idn, is_checked, is_ready, len_or_none, len_said, mdt_attributes, reads, reads_count, short_in, stop_of_task, writes}
use Rattle.sercos_seat.specs.Channel.{Report, broken_number, count_requests, last_outcome, number_in, of_phase, outcomes_in, report_of, trouble_by}
use Rattle.sercos_seat.specs.Records.{record_said, values_said}
use Rattle.sercos_seat.specs.Ring.{Known, MemberView, Task, member, request_task}

-- what was received from one drive and sent to it in this epoch: its channel, its ATs, and whether
-- there is a stop
pub record Seen : Type 0 where
  pub calls : List channel.Call
  pub tasks : List Task
  pub heard : Bool
  pub missed : Bool
  pub identified : Bool
  pub report : Option Report
  pub stopped : Bool
  pub waiting : List Task

abbrev pub outcomes_seen : Seen → List Outcome
outcomes_seen x = outcomes_in (begun_by x.calls)

-- the two words of up to four bytes
abbrev pub low_and_high : List ℕ → Words
low_and_high bytes = record { low = short_in bytes; high = short_in (drop 2 bytes) }

abbrev pub result_words : Outcome → Words
result_words o = low_and_high (bytes_of o)

-- The last value of a data record with four bytes, and its stop; then the last of all data records,
-- from the last drive back.
abbrev pub last_long : List Idn → List ℕ → Option (Idn × ℕ)
last_long (i ∷ idns) (word ∷ words) =
    if is_some (last_long idns words) then last_long idns words else (if len_or_none word == 4 then Some (i, word) else None)
last_long idns words = None

abbrev pub long_stop : ℕ → Option (Idn × ℕ) → Option Stop
long_stop address None = None
long_stop address (Some found) = Some (stop.BadConfig address found.0 found.1)

abbrev pub last_long_from : List MemberView → ℕ → (ℕ → List Outcome) → Option Stop
last_long_from [] k outcomes = None
last_long_from (d ∷ drives) k outcomes =
    if is_some (last_long_from drives (k + 1) outcomes) then last_long_from drives (k + 1) outcomes
    else long_stop d.address (last_long d.mdt (mdt_attributes d (outcomes k)))

-- What is kept: the drive; its channel; the number of outcomes, counted up to 100; the results of
-- the reads; whether each check ended well; the request of the current task, and its number; and
-- the drive's telegrams.
pub record SeatView : Type 0 where
  pub member : MemberView
  pub channel : MasterView
  pub done : ℕ
  pub given : List Words
  pub checked : Bool
  pub ready : Bool
  pub asked : Asked
  pub number : Option ℕ
  pub trouble : Option Stop
  pub report : Option (ℕ × Outcome)
  pub heard : Bool
  pub missed : Bool
  pub identified : Bool
  pub waiting : List Waiting

abbrev pub IsAsked : List Task → Asked → Type 0
IsAsked [] asked = Unit {0}
IsAsked (t ∷ tasks) asked = asked ≡ asked_by t.request

abbrev pub pair_of : Report → ℕ × Outcome
pair_of r = (r.number, r.outcome)

abbrev pub trouble_seen : MemberView → Seen → Option Stop
trouble_seen d x = trouble_by d.address x.tasks (last_outcome (begun_by x.calls))

-- whether no step is open
abbrev pub is_idle_in : Seen → Bool
is_idle_in x = is_none (open_in (begun_by x.calls))

abbrev pub opened_in : Seen → ℕ
opened_in x = if is_idle_in x then 0 else 1

-- a request that waits, as a task
abbrev pub waiting_task : Waiting → Task
waiting_task w = request_task w.number w.request

-- the requests that weren't begun, in order
abbrev pub left_in : Seen → List Task
left_in x = drop (count_requests x.tasks) x.waiting

-- What is kept of the requests to a drive, the last one first. A request is begun only after both
-- checks. So the number of outcomes, with the current task, is the number of tasks of the start-up
-- and of requests begun.
pub record IsQueue (kept : List Waiting) (d : MemberView) (x : Seen) : Type 0 where
  pub order : map waiting_task (reverse kept) ≡ left_in x
  pub none : is_ready d (outcomes_seen x) ≡ false → count_requests x.tasks ≡ 0
  pub count : is_ready d (outcomes_seen x) ≡ true → length (outcomes_seen x) + opened_in x ≡ reads_count d + 13 + count_requests x.tasks

-- what a seat keeps is that of a drive and its telegrams
pub record SeatStandsFor (v : SeatView) (d : MemberView) (x : Seen) : Type 0 where
  pub member_is : v.member ≡ d
  -- a drive's telegrams carry at most sixteen values each
  pub few : reads_count d ≤ 38
  pub channel_is : MasterStandsFor v.channel x.calls
  -- each task was begun on the channel
  pub begun_is : map (λ t. t.request) x.tasks ≡ map (λ b. b.request) (begun_by x.calls)
  pub done_is : v.done ≡ min (length (outcomes_seen x)) 100
  pub given_is : v.given ≡ take (reads_count d) (map result_words (outcomes_seen x))
  pub checked_is : v.checked ≡ is_checked d (outcomes_seen x)
  pub ready_is : v.ready ≡ is_ready d (outcomes_seen x)
  pub asked_is : IsAsked x.tasks v.asked
  pub number_is : v.number ≡ number_in x.tasks
  pub trouble_is : x.stopped ≡ false → v.trouble ≡ trouble_seen d x
  pub report_is : v.report ≡ option_map pair_of x.report
  pub heard_is : v.heard ≡ x.heard
  pub missed_is : v.missed ≡ x.missed
  pub identified_is : v.identified ≡ x.identified
  pub queue : IsQueue v.waiting d x

-- what the start-up keeps after one more outcome, by the number of outcomes before
abbrev pub kept_given : ℕ → ℕ → List Words → List ℕ → List Words
kept_given reads done given bytes = if nat_lt done reads && nat_lt (length given) 38 then given ++ low_and_high bytes ∷ [] else given

abbrev pub kept_checked : ℕ → ℕ → Bool → List ℕ → Bool
kept_checked reads done checked bytes = if done == reads + 11 then ended_well bytes else checked

abbrev pub kept_ready : ℕ → ℕ → Bool → Bool → List ℕ → Bool
kept_ready reads done checked ready bytes = if done == reads + 12 then checked && ended_well bytes else ready

-- what holds of every seat
pub record IsSeat (v : SeatView) : Type 0 where
  pub few : length v.given ≤ 38

-- the telegrams of a drive after an AT whose status was processed
abbrev pub heard_in : Status → ℕ → Seen → Seen
heard_in status word x = record x {
  heard = true;
  report = option_or (report_of (outcome_at x.calls status word) (number_in x.tasks)) x.report;
  calls = Hear status word ∷ x.calls;
}

-- what a seat keeps after an outcome of the current task
abbrev pub kept_report : Option ℕ → Outcome → Option (ℕ × Outcome) → Option (ℕ × Outcome)
kept_report None o report = report
kept_report (Some number) o report = Some (number, o)

abbrev pub after_outcome : Outcome → SeatView → SeatView
after_outcome o v = record v {
  done = min (v.done + 1) 100;
  given = kept_given (reads_count v.member) v.done v.given (bytes_of o);
  checked = kept_checked (reads_count v.member) v.done v.checked (bytes_of o);
  ready = kept_ready (reads_count v.member) v.done v.checked v.ready (bytes_of o);
  trouble = stop_of_task v.member.address v.number v.asked o;
  report = kept_report v.number o v.report;
}

-- the telegrams of a drive after a task was begun
abbrev pub begun_in : Task → Seen → Seen
begun_in t x = record x { calls = Begin t.request ∷ x.calls; tasks = t ∷ x.tasks }

abbrev pub with_begun : Option Task → Seen → Seen
with_begun None x = x
with_begun (Some t) x = begun_in t x

-- the telegrams of a drive after a record was sent
abbrev pub sent_in : Seen → Seen
sent_in x = record x { calls = Send ∷ x.calls }

-- The next task of the start-up, from what is kept: the number of outcomes, and whether each check
-- ended well.
abbrev pub next_write : Known → Option PlanView → ℕ → ℕ → Option Request
next_write s None k i = None
next_write s (Some p) k i =
    if nat_lt i 11 then slice_get (writes s p k) i
    else (if i == 11 then Some (request.Command (idn 127)) else None)

abbrev pub next_in_2 : Known → Option PlanView → ℕ → ℕ → Bool → Option Request
next_in_2 s plan k done checked =
    if nat_lt done (reads_count (member s k)) then slice_get (reads (member s k)) done
    else (if (done == reads_count (member s k) + 12) && (is_some plan && not checked) then Some (request.Read (idn 21) data_element)
    else next_write s plan k (done - reads_count (member s k)))

abbrev pub next_in_3 : ℕ → Bool → ℕ → Bool → Bool → Option Request
next_in_3 reads planned done checked ready =
    if planned && checked
    then (if done == reads + 12 then Some (request.Command (idn 128))
    else (if (done == reads + 13) && not ready then Some (request.Read (idn 22) data_element) else None))
    else None

-- whether all reads have ended
abbrev pub has_read : SeatView → Bool
has_read v = nat_le (reads_count v.member) v.done

-- the telegrams of a drive after it was identified
abbrev pub identified_in : Seen → Seen
identified_in x = record x { heard = true; identified = true }

abbrev pub seen_with_status : Bool → Status → ℕ → Seen → Seen
seen_with_status identifies status word x = if identifies then identified_in x else heard_in status word x

-- the telegrams of a drive after a content was received
abbrev pub at_in : Bool → ℕ → ℕ → List ℕ → Seen → Seen
at_in identifies address wanted content x =
    if not x.heard && is_none (at_fault address wanted content)
    then seen_with_status identifies (status_of (word_at content 1)) (word_at content 3) x else x

-- the length of a telegram after the address, in bytes, by the attributes that were read
abbrev pub long_of : Words → ℕ
long_of w = w.low + 65536 * w.high

abbrev pub len_of_words : Words → ℕ
len_of_words w = len_or_none (long_of w)

abbrev pub listed_len : List Words → ℕ
listed_len words = telegram_len (λ w. len_said (long_of w)) words

abbrev pub at_len_kept : SeatView → ℕ
at_len_kept v = listed_len (take (length v.member.at) (drop 6 v.given))

abbrev pub mdt_words_kept : SeatView → List Words
mdt_words_kept v = take (length v.member.mdt) (drop (6 + length v.member.at) v.given)

abbrev pub record_len_kept : SeatView → ℕ
record_len_kept v = listed_len (mdt_words_kept v)

abbrev pub no_words : Words
no_words = record { low = 0; high = 0 }

-- the low word at an index; 0 past the end
abbrev pub low_at : List Words → ℕ → ℕ
low_at words place = (slice_index_or words place no_words).low

-- the requests that wait are of phase 4
abbrev pub AreWaiting : List Task → Type 0
AreWaiting waiting = (i : ℕ) (t : Task) → slice_get waiting i ≡ Some t → t.phase ≡ 4

-- the telegrams of a drive after the end of a cycle
abbrev pub ended_in : ℕ → Seen → Seen
ended_in phase x = record x {
  calls = EndCycle ∷ x.calls;
  heard = false;
  missed = nat_le 3 phase && not x.heard;
  report = None;
}

abbrev pub cycles_kept : SeatView → ℕ
cycles_kept v = unwrap_or v.channel.age 0

-- the telegrams of a drive when an epoch begins
abbrev pub nothing_seen : List Task → Seen
nothing_seen waiting = record {
  calls = [];
  tasks = [];
  heard = false;
  missed = false;
  identified = false;
  report = None;
  stopped = false;
  waiting = waiting;
}

abbrev pub forgotten : Seen → Seen
forgotten x = nothing_seen (left_in x)

-- the task that an idle channel begins in a phase, if its next task belongs to the phase
abbrev pub begun_task : ℕ → Known → Option PlanView → List Task → ℕ → Seen → Option Task
begun_task phase s plan waiting k x =
    if is_idle_in x then of_phase phase (slice_get (agenda s plan waiting k (outcomes_seen x)) (length (outcomes_seen x))) else None

-- the data record of a drive in an MDT to all drives, by its telegrams
abbrev pub record_seen : ℕ → MemberView → Seen → List ℕ
record_seen cycle d x = record_said (master_says (begun_by x.calls)) (values_said cycle (mdt_attributes d (outcomes_seen x)))

-- the current request, broken
abbrev pub broken_in : Seen → Option Report
broken_in x = if is_idle_in x then None else broken_number (number_in x.tasks)
