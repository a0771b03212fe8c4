-- The past of an epoch, and what each call adds to it. An epoch begins at the opening, after a
-- fall, and with a restart. Turns, calls and tasks begun are listed newest first, the requests that
-- wait in their order, and outcomes oldest first.
use Rattle.std.specs.Prelude.{◌≡◌, ℕ, zero, suc, ◌+◌, ◌==◌, nat_le, Bool, true, false, not, ◌&&◌, ◌||◌, if◌then◌else◌, List, [], ◌∷◌, length, drop, Option, Some, None, Result, Ok, Err, is_some, is_none, option_map, slice_get, slice_index}
use Rattle.std.specs.Option.{option_or}
use Rattle.sercos_telegram.specs.Words.{status_of}
use Rattle.sercos_telegram.specs.Spells.{word_at}
use Rattle.sercos_telegram.specs.Faults.{at_fault, mst_fault}
use Rattle.sercos_step.specs.declared.request.Outcome.{Outcome}
use Rattle.sercos_service_master.specs.Begun.{open_in}
use Rattle.sercos_service_master.specs.Calls.{Begin, Send, Hear, EndCycle, begun_by, outcome_at, cycles_open}
use Rattle.sercos_service_master.specs.Calls as channel
use Rattle.sercos_timing.specs.Views.{PlanView}
use Rattle.sercos_timing.specs.Order.{record_bytes}
use Rattle.sercos_plan.specs.Views.{ChainView}
use Rattle.sercos_plan.specs.ChainOf.{planned}
use Rattle.sercos_trace.specs.declared.events.Stop.{Stop}
use Rattle.sercos_trace.specs.declared.events.Stop.TheVariants as stop
use Rattle.sercos_trace.specs.declared.events.Fall.{Fall}
use Rattle.sercos_trace.specs.declared.events.Fall.TheVariants as fall
use Rattle.sercos_seat.specs.Agenda.{agenda, at_len, is_checked, is_read, is_ready, last_long_stop, wishes_given}
use Rattle.sercos_seat.specs.Channel.{Report, count_requests, is_place, last_outcome, number_in, of_phase, outcomes_in, report_of, trouble_by}
use Rattle.sercos_seat.specs.Ring.{Known, Task, member}

-- The calls of the master: its own MST as it returned, if it did; an AT; the sending of the MDT;
-- the end of the cycle; and a restart.
pub data Call : Type 0 where
  HearMst : (content : Option (List ℕ)) → Call
  HearAt : (content : List ℕ) → Call
  Mdt : Call
  End : Call
  Restart : Call

-- A cycle so far: the phase commanded in it; whether its MST returned intact; the drives from which
-- an AT was taken, by their index; the drive that its MDT addresses, if it addresses one; whether
-- the plan was made and a stop was found in it; and the request to each drive that an AT ended.
pub record Turn : Type 0 where
  pub phase : ℕ
  pub whole : Bool
  pub heard : ℕ → Bool
  pub addressed : Option ℕ
  pub plans : Bool
  pub stops : Bool
  pub report : ℕ → Option Report

abbrev pub new_turn : ℕ → Turn
new_turn phase = record {
  phase = phase;
  whole = false;
  heard = λ k. false;
  addressed = None;
  plans = false;
  stops = false;
  report = λ k. None;
}

-- The past of the master: the number of cycles since the opening; the requests to each drive that
-- had not been begun when the epoch began; the cycles of the epoch, the present one first; the
-- calls on each channel in the epoch, and the tasks begun on it; the plan and the stop, if there is
-- one. A channel is named by its drive's index.
pub record Past : Type 0 where
  pub cycle : ℕ
  pub waiting : ℕ → List Task
  pub now : Turn
  pub turns : List Turn
  pub calls : ℕ → List channel.Call
  pub tasks : ℕ → List Task
  pub plan : Option PlanView
  pub stop : Option Stop

-- the past at the start of an epoch
abbrev pub new_epoch : ℕ → (ℕ → List Task) → Past
new_epoch cycle waiting = record {
  cycle = cycle;
  waiting = waiting;
  now = new_turn 0;
  turns = [];
  calls = λ k. [];
  tasks = λ k. [];
  plan = None;
  stop = None;
}

-- a function with another value at one index
abbrev pub with_at : {A : Type 0} → ℕ → A → (ℕ → A) → ℕ → A
with_at i x f k = if k == i then x else f k

-- the first of the n indices from k on that passes the test
abbrev pub first_from : ℕ → ℕ → (ℕ → Bool) → Option ℕ
first_from k zero test = None
first_from k (suc n) test = if test k then Some k else first_from (k + 1) n test

abbrev pub first_place : Known → (ℕ → Bool) → Option ℕ
first_place s test = first_from 0 (length s.drives) test

-- each drive of the ring passes the test
abbrev pub each_place : Known → (ℕ → Bool) → Bool
each_place s test = is_none (first_place s (λ k. not (test k)))

abbrev pub outcomes : Past → ℕ → List Outcome
outcomes p k = outcomes_in (begun_by (p.calls k))

abbrev pub is_idle : Past → ℕ → Bool
is_idle p k = is_none (open_in (begun_by (p.calls k)))

-- THE MST. It is intact if it is read as the MST that was sent.
abbrev pub is_mst : ℕ → Option (List ℕ) → Bool
is_mst phase None = false
is_mst phase (Some content) = is_none (mst_fault content) && (slice_index content 1 == phase)

abbrev pub after_mst : Option (List ℕ) → Past → Past
after_mst content p = record p { now = record p.now { whole = is_mst p.now.phase content } }

-- AN AT. It belongs to the drive whose address it has.
-- The drive that the MDT of the cycle before addressed.
abbrev pub addressed_before : List Turn → Option ℕ
addressed_before [] = None
addressed_before (t ∷ turns) = t.addressed

abbrev pub place_of : Known → ℕ → Option ℕ
place_of s address = first_place s (λ k. (member s k).address == address)

-- In phase 0 no AT is awaited; in phases 1 and 2 that of the drive addressed in the cycle before;
-- in phases 3 and 4 each.
abbrev pub is_awaited : Past → ℕ → Bool
is_awaited p k = if nat_le 3 p.now.phase then true else (nat_le 1 p.now.phase && is_place k (addressed_before p.turns))

-- the length of an AT in this phase, in bytes after the address
abbrev pub wanted_len : Known → Past → ℕ → ℕ
wanted_len s p k = if nat_le 3 p.now.phase then at_len (member s k) (outcomes p k) else 4

-- An AT is taken if one is awaited from its drive, and it is the drive's first in this cycle with
-- the wanted length and address.
abbrev pub is_taken : Known → Past → ℕ → List ℕ → Bool
is_taken s p k content = is_awaited p k && (not (p.now.heard k) && is_none (at_fault (member s k).address (wanted_len s p k) content))

-- What an AT changes at its drive: the calls on the drive's channel, and the request to be
-- reported.
pub record Hearing : Type 0 where
  pub calls : List channel.Call
  pub report : Option Report

-- In phase 1 the AT itself is the answer: the drive is identified.
abbrev pub identified : ℕ → Past → Hearing
identified k p = record { calls = p.calls k; report = p.now.report k }

-- In later phases its status is passed to the channel, and if that ends a request, its outcome is
-- to be reported.
abbrev pub heard_from : ℕ → List ℕ → Past → Hearing
heard_from k content p = record {
  calls = Hear (status_of (word_at content 1)) (word_at content 3) ∷ p.calls k;
  report =
      option_or (report_of (outcome_at (p.calls k) (status_of (word_at content 1)) (word_at content 3)) (number_in (p.tasks k)))
      (p.now.report k);
}

abbrev pub hearing : Bool → ℕ → List ℕ → Past → Hearing
hearing identifies k content p = if identifies then identified k p else heard_from k content p

abbrev pub after_taken : ℕ → List ℕ → Past → Past
after_taken k content p = record p {
  now = record p.now {
    heard = with_at k true p.now.heard;
    report = with_at k (hearing (p.now.phase == 1) k content p).report p.now.report;
  };
  calls = with_at k (hearing (p.now.phase == 1) k content p).calls p.calls;
}

abbrev pub after_at_of : Known → Option ℕ → List ℕ → Past → Past
after_at_of s None content p = p
after_at_of s (Some k) content p = if is_taken s p k content then after_taken k content p else p

abbrev pub after_at : Known → List ℕ → Past → Past
after_at s content p = after_at_of s (place_of s (slice_index content 0)) content p

-- THE MDT. First the answers of the cycle are processed: a stop, in ring order, and the plan, if
-- all reads have ended.
-- The stop that the newest outcome of a channel causes.
abbrev pub trouble : Known → Past → ℕ → Option Stop
trouble s p k = trouble_by (member s k).address (p.tasks k) (last_outcome (begun_by (p.calls k)))

abbrev pub first_trouble_from : Known → Past → ℕ → ℕ → Option Stop
first_trouble_from s p k zero = None
first_trouble_from s p k (suc n) = option_or (trouble s p k) (first_trouble_from s p (k + 1) n)

abbrev pub first_trouble : Known → Past → Option Stop
first_trouble s p = first_trouble_from s p 0 (length s.drives)

abbrev pub with_stop : Option Stop → Past → Past
with_stop None p = p
with_stop (Some x) p = if is_some p.stop then p else record p { now = record p.now { stops = true }; stop = Some x }

abbrev pub all_read : Known → Past → Bool
all_read s p = each_place s (λ k. is_read (member s k) (outcomes p k))

-- the plan is due: all reads have ended, and there is no plan yet and no stop
abbrev pub is_plan_due : Known → Past → Bool
is_plan_due s p = (p.now.phase == 2) && (is_none p.stop && (is_none p.plan && all_read s p))

abbrev pub with_plan : Result PlanView ChainView → Past → Past
with_plan (Ok plan) p = record p { now = record p.now { plans = true }; plan = Some plan }
with_plan (Err chain) p = with_stop (Some (stop.NoFit chain)) p

abbrev pub planned_by : Known → Past → Past
planned_by s p =
    if nat_le (record_bytes (wishes_given s (outcomes p)).drives) 2047 then with_plan (planned (wishes_given s (outcomes p))) p
    else with_stop (last_long_stop s.drives 0 (outcomes p)) p

abbrev pub with_due_plan : Known → Past → Past
with_due_plan s p = if is_plan_due s p then planned_by s p else p

abbrev pub settled : Known → Past → Past
settled s p = with_due_plan s (with_stop (first_trouble s p) p)

-- Then each idle channel begins its next task, if that belongs to the phase and there is no stop.
-- In phase 2 one drive after the other has its turn: the first with unfinished reads, and then the
-- first whose check for phase 3 hasn't ended well.
abbrev pub in_turn : Known → Past → Option ℕ
in_turn s p = option_or (first_place s (λ k. not (is_read (member s k) (outcomes p k))))
    (first_place s (λ k. not (is_checked (member s k) (outcomes p k))))

abbrev pub has_turn : Known → Past → ℕ → Bool
has_turn s p k = nat_le 3 p.now.phase || ((p.now.phase == 2) && is_place k (in_turn s p))

abbrev pub next_task : Known → Past → ℕ → Option Task
next_task s p k = slice_get (agenda s p.plan (p.waiting k) k (outcomes p k)) (length (outcomes p k))

abbrev pub begins : Known → Past → ℕ → Option Task
begins s p k = if is_none p.stop && (is_idle p k && has_turn s p k) then of_phase p.now.phase (next_task s p k) else None

abbrev pub with_task : Option Task → List Task → List Task
with_task None tasks = tasks
with_task (Some t) tasks = t ∷ tasks

abbrev pub with_begin : Option Task → List channel.Call → List channel.Call
with_begin None calls = calls
with_begin (Some t) calls = Begin t.request ∷ calls

abbrev pub begun : Known → Past → Past
begun s p = record p {
  calls = λ k. with_begin (begins s p k) (p.calls k);
  tasks = λ k. with_task (begins s p k) (p.tasks k);
}

-- Then the MDT is sent: in phase 1 to the first drive that isn't identified, in phase 2 to the
-- drive whose step is open, and in phases 3 and 4 to all.
abbrev pub has_identified : ℕ → List Turn → Bool
has_identified k [] = false
has_identified k (t ∷ turns) = ((t.phase == 1) && t.heard k) || has_identified k turns

abbrev pub is_identified : Past → ℕ → Bool
is_identified p k = has_identified k (p.now ∷ p.turns)

abbrev pub addressed_in : Known → Past → Option ℕ
addressed_in s p =
    if p.now.phase == 1 then first_place s (λ k. not (is_identified p k))
    else (if p.now.phase == 2 then first_place s (λ k. not (is_idle p k)) else None)

abbrev pub is_sent_to : Past → Option ℕ → ℕ → Bool
is_sent_to p addressed k = nat_le 3 p.now.phase || ((p.now.phase == 2) && is_place k addressed)

abbrev pub sent_to : Option ℕ → Past → Past
sent_to addressed p = record p {
  now = record p.now { addressed = addressed };
  calls = λ k. if is_sent_to p addressed k then Send ∷ p.calls k else p.calls k;
}

abbrev pub ready_to_send : Known → Past → Past
ready_to_send s p = begun s (settled s p)

abbrev pub after_mdt : Known → Past → Past
after_mdt s p = sent_to (addressed_in s (ready_to_send s p)) (ready_to_send s p)

-- THE END OF THE CYCLE. The first of these that is true makes the ring fall to phase 0:
-- - the own MST wasn't intact in two cycles in a row of phases 1 to 4;
-- - no AT was taken from a drive in two cycles in a row of phases 3 and 4;
-- - a step or an identification has no answer up to the 64th cycle after the one in which it was
--   first sent.
-- Until a fall the phase never descends, so of two cycles in a row the phase of the earlier one is
-- tested. A restart isn't among these: it is an immediate fall.
abbrev pub has_lost_mst : List Turn → Bool
has_lost_mst (t ∷ before ∷ turns) = nat_le 1 before.phase && (not t.whole && not before.whole)
has_lost_mst _ = false

abbrev pub has_lost_at : ℕ → List Turn → Bool
has_lost_at k (t ∷ before ∷ turns) = nat_le 3 before.phase && (not (t.heard k) && not (before.heard k))
has_lost_at k _ = false

-- the number of the newest turns, without a gap, in which phase 1 was commanded and the MDT
-- addressed the drive
abbrev pub count_addressed : ℕ → List Turn → ℕ
count_addressed k [] = 0
count_addressed k (t ∷ turns) = if (t.phase == 1) && is_place k t.addressed then count_addressed k turns + 1 else 0

-- In phase 1 the MDT is to the drive in this cycle, and was in the 64 before; later its open step
-- was first sent 64 cycles ago.
abbrev pub is_at_limit : Past → ℕ → Bool
is_at_limit p k =
    if p.now.phase == 1 then is_place k p.now.addressed && nat_le 64 (count_addressed k p.turns)
    else nat_le 64 (cycles_open (p.calls k))

abbrev pub fall_at : (ℕ → Fall) → Known → Option ℕ → Option Fall
fall_at f s k = option_map (λ i. f (member s i).address) k

abbrev pub fall_of : Known → Past → Option Fall
fall_of s p =
    option_or (if has_lost_mst (p.now ∷ p.turns) then Some fall.MstLost else None)
    (option_or (fall_at fall.AtLost s (first_place s (λ k. has_lost_at k (p.now ∷ p.turns))))
    (fall_at fall.StepLimit s (first_place s (is_at_limit p))))

-- the phase rises by one if everything required to leave it is done
abbrev pub whole_row : List Turn → ℕ
whole_row [] = 0
whole_row (t ∷ turns) = if t.whole then whole_row turns + 1 else 0

-- phase 0: ten MSTs in a row returned intact
abbrev pub is_closed : Past → Bool
is_closed p = nat_le 10 (whole_row (p.now ∷ p.turns))

-- phase 1: each drive is identified
abbrev pub all_identified : Known → Past → Bool
all_identified s p = each_place s (is_identified p)

-- phase 2: each drive's check for phase 3 ended well, after its other tasks of phase 2
abbrev pub all_checked : Known → Past → Bool
all_checked s p = each_place s (λ k. is_checked (member s k) (outcomes p k))

-- phase 3: each drive's check for phase 4 ended well
abbrev pub all_ready : Known → Past → Bool
all_ready s p = each_place s (λ k. is_ready (member s k) (outcomes p k))

abbrev pub is_done_in : ℕ → Known → Past → Bool
is_done_in phase s p =
    if phase == 0 then is_closed p
    else (if phase == 1 then all_identified s p
    else (if phase == 2 then all_checked s p
    else ((phase == 3) && all_ready s p)))

abbrev pub is_done : Known → Past → Bool
is_done s p = is_done_in p.now.phase s p

abbrev pub next_phase : Known → Past → ℕ
next_phase s p = if is_done s p then p.now.phase + 1 else p.now.phase

abbrev pub goes_on : ℕ → Past → Past
goes_on phase p = record p {
  cycle = p.cycle + 1;
  now = new_turn phase;
  turns = p.now ∷ p.turns;
  calls = λ k. EndCycle ∷ p.calls k;
}

abbrev pub still_waiting : Past → ℕ → List Task
still_waiting p k = drop (count_requests (p.tasks k)) (p.waiting k)

abbrev pub after_end : Known → Past → Past
after_end s p = if is_some (fall_of s p) then new_epoch (p.cycle + 1) (still_waiting p) else goes_on (next_phase s p) p

abbrev pub after_restart : Past → Past
after_restart p = new_epoch p.cycle (still_waiting p)

-- THE PAST after all calls since the opening.
abbrev pub past : Known → (ℕ → List Task) → List Call → Past
past s requests [] = new_epoch 0 requests
past s requests (HearMst content ∷ h) = after_mst content (past s requests h)
past s requests (HearAt content ∷ h) = after_at s content (past s requests h)
past s requests (Mdt ∷ h) = after_mdt s (past s requests h)
past s requests (End ∷ h) = after_end s (past s requests h)
past s requests (Restart ∷ h) = after_restart (past s requests h)

-- AFTER ANY CALLS. If there is a plan, all reads have ended, the data records fit an MDT, and the
-- plan is the least one for the values read.
pub record IsPlannedBy (s : Known) (p : Past) (plan : PlanView) : Type 0 where
  pub read : all_read s p ≡ true
  pub fits : nat_le (record_bytes (wishes_given s (outcomes p)).drives) 2047 ≡ true
  pub planned_is : planned (wishes_given s (outcomes p)) ≡ Ok plan

abbrev pub IsPlanned : Known → Past → Type 0
IsPlanned s p = (plan : PlanView) → p.plan ≡ Some plan → IsPlannedBy s p plan
