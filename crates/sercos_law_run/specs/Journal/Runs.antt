-- The run of a ring: in each cycle each station sends what its rules require after what it has got so far. Journals and lists of
-- calls have their newest item first.
use Rattle.std.specs.Prelude.{◌≡◌, ℕ, suc, zero, ◌+◌, ◌*◌, ◌==◌, nat_lt, Bool, true, false, ◌||◌, if◌then◌else◌, List, [], ◌∷◌, ◌++◌, length, Option, Some, None, slice_index, slice_index_or, ℤ, pos, negsuc}
use Rattle.sercos_hdlc.specs.Stuffed.{frame_of}
use Rattle.sercos_telegram.specs.declared.layout.Kind.TheVariants as kinds
use Rattle.sercos_step.specs.declared.request.Job.{Job}
use Rattle.sercos_block.specs.Views.{DriveView, RingView}
use Rattle.sercos_drive.specs.Heard.{DriveCall, Mst, Mdt, Restart}
use Rattle.sercos_drive.specs.Annals.{phase_at}
use Rattle.sercos_drive.specs.Says.{Said, drive_says}
use Rattle.sercos_trace.specs.Views.{EventsView, SentView, CycleView}
use Rattle.sercos_trace.specs.declared.record.Move.{Move}
use Rattle.sercos_seat.specs.Ring.{known_of, tasks_for}
use Rattle.sercos_master.specs.Annals.{Past, Call, HearMst, HearAt, End, past}
use Rattle.sercos_master.specs.Annals as master
use Rattle.sercos_master.specs.Says.{Sent, mst_said, mdt_said}
use Rattle.sercos_master.specs.Reports.{events_told, restart_told}
use Rattle.sercos_law_run.specs.Journal.Arrivals.{passage, heard, unseen_at, sum_below, any_below, disturbed_at}
use Rattle.sercos_script.specs.Links.{Carry, Restarts}
use Rattle.sercos_law_run.specs.Journal.Records.{mst_in, ats_in, mdt_in}

-- the drive at place k, counted from 0; it is station k + 1
abbrev pub no_drive : DriveView
no_drive = record {
  address = 0;
  slave = 0;
  busy = 0;
  command = 0;
  times = record { t1min = 0; tatmt = 0; t4min = 0; tatat = 0; tmtsy = 0; tmtsg = 0 };
  cycle_min = 0;
  cycle_max = 0;
  at = [];
  mdt = [];
  blocks = [];
}

abbrev pub drive_at : RingView → ℕ → DriveView
drive_at r k = slice_index_or r.drives k no_drive

-- the calls of the drive at a station so far
abbrev pub with_restart : Bool → List DriveCall → List DriveCall
with_restart true h = Restart ∷ h
with_restart false h = h

-- up to the MST's place of a cycle
abbrev pub mst_calls : Carry → Restarts → ℕ → ℕ → List ℕ → List DriveCall → List DriveCall
mst_calls carry restarts cycle station mst h =
    Mst cycle (heard carry (passage cycle kinds.Mst 0 station) mst) ∷ with_restart (restarts cycle station) h

-- what arrives of a cycle's MDT, if one is sent
abbrev pub mdt_heard : Carry → ℕ → ℕ → Option (List ℕ) → Option (List ℕ)
mdt_heard carry cycle station None = None
mdt_heard carry cycle station (Some mdt) = heard carry (passage cycle kinds.Mdt 0 station) mdt

abbrev pub drive_calls : Carry → Restarts → ℕ → List CycleView → List DriveCall
drive_calls carry restarts station [] = []
drive_calls carry restarts station (t ∷ j) =
    Mdt (mdt_heard carry (length j) station (mdt_in t.sent))
    ∷ mst_calls carry restarts (length j) station (mst_in t.sent) (drive_calls carry restarts station j)

-- the station of the drive with an address; 0 if no drive has it
abbrev pub station_from : ℕ → List DriveView → ℕ → ℕ
station_from station [] address = 0
station_from station (d ∷ drives) address = if d.address == address then station else station_from (station + 1) drives address

abbrev pub station_of : RingView → ℕ → ℕ
station_of r address = station_from 1 r.drives address

-- The calls of the master. It processes each AT of which a frame arrives, in the order in which they were sent; its own rules decide
-- which it takes.
abbrev pub with_at : Option (List ℕ) → List Call → List Call
with_at None h = h
with_at (Some content) h = HearAt content ∷ h

abbrev pub at_calls : RingView → Carry → ℕ → List (List ℕ) → List Call → List Call
at_calls r carry cycle [] h = h
at_calls r carry cycle (at ∷ ats) h =
    at_calls r carry cycle ats (with_at (heard carry (passage cycle kinds.At (station_of r (slice_index at 0)) 0) at) h)

abbrev pub begin_calls : Restarts → ℕ → List Call → List Call
begin_calls restarts cycle h = if restarts cycle 0 then master.Restart ∷ h else h

abbrev pub own_mst : Carry → ℕ → List ℕ → List Call → List Call
own_mst carry cycle mst h = HearMst (heard carry (passage cycle kinds.Mst 0 0) mst) ∷ h

-- up to the MDT's place of a cycle
abbrev pub mid_calls : RingView → Carry → Restarts → ℕ → List ℕ → List (List ℕ) → List Call → List Call
mid_calls r carry restarts cycle mst ats h = master.Mdt ∷
    at_calls r carry cycle ats (own_mst carry cycle mst (begin_calls restarts cycle h))

abbrev pub master_calls : RingView → Carry → Restarts → List CycleView → List Call
master_calls r carry restarts [] = []
master_calls r carry restarts (t ∷ j) = End ∷ mid_calls r carry restarts (length j) (mst_in t.sent) (ats_in t.sent)
    (master_calls r carry restarts j)

-- the telegrams of a cycle, in a ring of a rate
abbrev pub sent_at : ℕ → ℕ → List ℕ → SentView
sent_at rate start content = record { kind = kinds.At; start = pos (rate * start); bits = length (frame_of content); content = content }

-- the start of a frame of n bits that ends at 0
abbrev pub start_before : ℕ → ℤ
start_before zero = pos 0
start_before (suc n) = negsuc n

abbrev pub sent_mst : List ℕ → SentView
sent_mst content = record {
  kind = kinds.Mst;
  start = start_before (length (frame_of content));
  bits = length (frame_of content);
  content = content;
}

abbrev pub sent_mdt : ℕ → Option Sent → List SentView
sent_mdt rate None = []
sent_mdt rate (Some s) = (record {
  kind = kinds.Mdt;
  start = pos (rate * s.start);
  bits = length (frame_of s.content);
  content = s.content;
}) ∷ []

-- The ATs of a cycle by their starts, and those of one start in the order of the ring.
abbrev pub inserted : Said → List Said → List Said
inserted s [] = s ∷ []
inserted s (x ∷ others) = if nat_lt s.start x.start then s ∷ x ∷ others else x ∷ inserted s others

abbrev pub with_said : Option Said → List Said → List Said
with_said None others = others
with_said (Some s) others = inserted s others

-- the calls of the drive at place k up to the MST's place of a cycle, after its calls `h k`
abbrev pub at_mst : Carry → Restarts → ℕ → List ℕ → (ℕ → List DriveCall) → ℕ → List DriveCall
at_mst carry restarts cycle mst h k = mst_calls carry restarts cycle (k + 1) mst (h k)

-- the ATs of the first n drives
abbrev pub said_below : ℕ → (ℕ → DriveView) → ℕ → (ℕ → List DriveCall) → List Said
said_below zero d rate h = []
said_below (suc n) d rate h = with_said (drive_says (d n) rate (h n)) (said_below n d rate h)

abbrev pub ats_said : ℕ → List Said → List SentView
ats_said rate [] = []
ats_said rate (s ∷ others) = sent_at rate s.start s.content ∷ ats_said rate others

abbrev pub contents : List Said → List (List ℕ)
contents [] = []
contents (s ∷ others) = s.content ∷ contents others

-- The moves of the first n drives: after the calls `h` a drive is in another phase than after the calls `g`.
abbrev pub move_of : Bool → ℕ → ℕ → ℕ → List Move
move_of late address before after = if before == after then [] else (record { drive = address; phase = after; late = late }) ∷ []

abbrev pub moves_below : Bool → ℕ → (ℕ → DriveView) → ℕ → (ℕ → List DriveCall) → (ℕ → List DriveCall) → List Move
moves_below late zero d rate g h = []
moves_below late (suc n) d rate g h = moves_below late n d rate g h ++
    move_of late (d n).address (phase_at (d n) rate (g n)) (phase_at (d n) rate (h n))

-- The unseen arrivals of a cycle: of the MST at each drive and at the master, of each AT at the master, and of the MDT at each
-- drive. The drive at place k is station k + 1.
abbrev pub unseen_mst : Carry → ℕ → List ℕ → ℕ → ℕ
unseen_mst carry cycle mst k = unseen_at carry (passage cycle kinds.Mst 0 (k + 1)) mst

abbrev pub unseen_mdt : Carry → ℕ → Option (List ℕ) → ℕ → ℕ
unseen_mdt carry cycle None k = 0
unseen_mdt carry cycle (Some mdt) k = unseen_at carry (passage cycle kinds.Mdt 0 (k + 1)) mdt

abbrev pub unseen_ats : RingView → Carry → ℕ → List (List ℕ) → ℕ
unseen_ats r carry cycle [] = 0
unseen_ats r carry cycle (at ∷ ats) = unseen_at carry (passage cycle kinds.At (station_of r (slice_index at 0)) 0) at +
    unseen_ats r carry cycle ats

abbrev pub unseen_in : RingView → Carry → ℕ → List ℕ → List (List ℕ) → Option (List ℕ) → ℕ
unseen_in r carry cycle mst ats mdt =
    sum_below (length r.drives) (unseen_mst carry cycle mst) + unseen_at carry (passage cycle kinds.Mst 0 0) mst +
    unseen_ats r carry cycle ats
    + sum_below (length r.drives) (unseen_mdt carry cycle mdt)

-- The next cycle of a run.

abbrev pub no_events : EventsView
no_events = record { outcomes = []; plan = None; stop = None; fall = None }

-- what the master looks back on after these calls
abbrev pub looks_back : RingView → List Job → List Call → Past
looks_back r jobs h = past (known_of r) (tasks_for (known_of r) jobs) h

abbrev pub restart_events : RingView → List Job → Restarts → ℕ → List Call → EventsView
restart_events r jobs restarts cycle h = if restarts cycle 0 then restart_told (known_of r) (looks_back r jobs h) no_events else no_events

abbrev pub content_of : Option Sent → Option (List ℕ)
content_of None = None
content_of (Some s) = Some s.content

-- the MDT's content, and the calls of each drive up to its place
abbrev pub at_mdt : Carry → ℕ → Option (List ℕ) → (ℕ → List DriveCall) → ℕ → List DriveCall
at_mdt carry cycle mdt h k = Mdt (mdt_heard carry cycle (k + 1) mdt) ∷ h k

-- The record of a cycle, by the MST, the ATs and the MDT that are sent in it; the calls of the drives before it and up to the MST's
-- place; what the master looks back on at the MDT's place; and the calls of the master before the cycle.
abbrev pub cycle_record : RingView → List Job → Carry → Restarts → ℕ → ℕ → List ℕ → List Said → Option Sent → (ℕ → List DriveCall) →
    (ℕ → List DriveCall) → Past → List Call → CycleView
cycle_record r jobs carry restarts cycle phase mst ats mdt g h p calls = record {
  cycle = cycle;
  phase = phase;
  sent = sent_mst mst ∷ ats_said r.rate ats ++ sent_mdt r.rate mdt;
  moves = moves_below false (length r.drives) (drive_at r) r.rate g h ++
      moves_below true (length r.drives) (drive_at r) r.rate h (at_mdt carry cycle (content_of mdt) h);
  events = events_told (known_of r) p (restart_events r jobs restarts cycle calls);
  unseen = unseen_in r carry cycle mst (contents ats) (content_of mdt);
}

abbrev pub next_from : RingView → List Job → Carry → Restarts → ℕ → Past → List ℕ → List Said → (ℕ → List DriveCall) →
    (ℕ → List DriveCall) → List Call → CycleView
next_from r jobs carry restarts cycle now mst ats g h calls =
    let middle = looks_back r jobs (mid_calls r carry restarts cycle mst (contents ats) calls) in
    cycle_record r jobs carry restarts cycle now.now.phase mst ats (mdt_said (known_of r) middle) g h middle calls

abbrev pub next_with : RingView → List Job → Carry → Restarts → ℕ → Past → (ℕ → List DriveCall) → List Call → CycleView
next_with r jobs carry restarts cycle now g calls =
    let mst = mst_said now in
    let h = at_mst carry restarts cycle mst g in
    next_from r jobs carry restarts cycle now mst (said_below (length r.drives) (drive_at r) r.rate h) g h calls

abbrev pub next_record : RingView → List Job → Carry → Restarts → List CycleView → CycleView
next_record r jobs carry restarts j =
    let calls = master_calls r carry restarts j in
    let g : ℕ → List DriveCall = λ k. drive_calls carry restarts (k + 1) j in
    next_with r jobs carry restarts (length j) (looks_back r jobs (begin_calls restarts (length j) calls)) g calls

-- The calls of the master before a cycle's MST, and those up to the place of the MDT, of a cycle with these telegrams.
abbrev pub begins : RingView → Carry → Restarts → List CycleView → List Call
begins r carry restarts j = begin_calls restarts (length j) (master_calls r carry restarts j)

abbrev pub middle : RingView → Carry → Restarts → List SentView → List CycleView → List Call
middle r carry restarts sent j = mid_calls r carry restarts (length j) (mst_in sent) (ats_in sent) (master_calls r carry restarts j)

-- the calls of each drive before a cycle, and up to the place of the ATs
abbrev pub given_before : Carry → Restarts → List CycleView → ℕ → List DriveCall
given_before carry restarts j k = drive_calls carry restarts (k + 1) j

abbrev pub given_mst : Carry → Restarts → List SentView → List CycleView → ℕ → List DriveCall
given_mst carry restarts sent j = at_mst carry restarts (length j) (mst_in sent) (given_before carry restarts j)

abbrev pub given_mdt : Carry → Restarts → List SentView → List CycleView → ℕ → List DriveCall
given_mdt carry restarts sent j = at_mdt carry (length j) (mdt_in sent) (given_mst carry restarts sent j)

-- What is sent in the next cycle. Each telegram is its sender's word on what it got: the MST is the master's, before the cycle;
-- the ATs are the drives', on what arrived of this MST; the MDT is the master's, on what arrived of this MST and these ATs.
abbrev pub mst_next : RingView → List Job → Carry → Restarts → List CycleView → SentView
mst_next r jobs carry restarts j = sent_mst (mst_said (looks_back r jobs (begins r carry restarts j)))

abbrev pub ats_next : RingView → Carry → Restarts → List SentView → List CycleView → List SentView
ats_next r carry restarts sent j = ats_said r.rate (said_below (length r.drives) (drive_at r) r.rate (given_mst carry restarts sent j))

abbrev pub mdt_next : RingView → List Job → Carry → Restarts → List SentView → List CycleView → List SentView
mdt_next r jobs carry restarts sent j = sent_mdt r.rate (mdt_said (known_of r) (looks_back r jobs (middle r carry restarts sent j)))

-- The drives whose phase after this MST is another than before the cycle have moved; late, those whose phase after the MDT's place
-- is another than after the MST.
abbrev pub moves_next : RingView → Carry → Restarts → List SentView → List CycleView → List Move
moves_next r carry restarts sent j = moves_below false (length r.drives) (drive_at r) r.rate (given_before carry restarts j)
    (given_mst carry restarts sent j)

abbrev pub late_moves_next : RingView → Carry → Restarts → List SentView → List CycleView → List Move
late_moves_next r carry restarts sent j = moves_below true (length r.drives) (drive_at r) r.rate (given_mst carry restarts sent j)
    (given_mdt carry restarts sent j)

-- What the master reports: at its restart, if it restarts, and at the end of the cycle.
abbrev pub events_next : RingView → List Job → Carry → Restarts → List SentView → List CycleView → EventsView
events_next r jobs carry restarts sent j =
    events_told (known_of r) (looks_back r jobs (middle r carry restarts sent j))
    (restart_events r jobs restarts (length j) (master_calls r carry restarts j))

-- A cycle is the next one after these.
pub record IsNext (r : RingView) (jobs : List Job) (carry : Carry) (restarts : Restarts) (t : CycleView) (j : List CycleView) : Type 0 where
  pub cycle : t.cycle ≡ length j
  pub phase : t.phase ≡ (looks_back r jobs (begins r carry restarts j)).now.phase
  pub sent : t.sent ≡ mst_next r jobs carry restarts j ∷ ats_next r carry restarts t.sent j ++ mdt_next r jobs carry restarts t.sent j
  pub moves : t.moves ≡ moves_next r carry restarts t.sent j ++ late_moves_next r carry restarts t.sent j
  pub events : t.events ≡ events_next r jobs carry restarts t.sent j
  pub unseen : t.unseen ≡ unseen_in r carry (length j) (mst_in t.sent) (ats_in t.sent) (mdt_in t.sent)

-- A journal is a run if each of its cycles is the next one after those before it.
abbrev pub IsRun : RingView → List Job → Carry → Restarts → List CycleView → Type 0
IsRun r jobs carry restarts [] = Unit {0}
IsRun r jobs carry restarts (t ∷ j) = IsRun r jobs carry restarts j × IsNext r jobs carry restarts t j

abbrev pub run_of : RingView → List Job → Carry → Restarts → ℕ → List CycleView
run_of r jobs carry restarts zero = []
run_of r jobs carry restarts (suc n) = with_next (run_of r jobs carry restarts n)
  where
    with_next : List CycleView → List CycleView
    with_next j = next_record r jobs carry restarts j ∷ j

-- A journal is clear if no arrival was unseen.
abbrev pub IsClear : List CycleView → Type 0
IsClear [] = Unit {0}
IsClear (t ∷ j) = IsClear j × (t.unseen ≡ 0)

-- A cycle is disturbed if some arrival of it isn't what was sent, or a station restarts in it.
abbrev pub disturbs_mst : Carry → ℕ → List ℕ → ℕ → Bool
disturbs_mst carry cycle mst k = disturbed_at carry (passage cycle kinds.Mst 0 (k + 1)) mst

abbrev pub disturbs_mdt : Carry → ℕ → Option (List ℕ) → ℕ → Bool
disturbs_mdt carry cycle None k = false
disturbs_mdt carry cycle (Some mdt) k = disturbed_at carry (passage cycle kinds.Mdt 0 (k + 1)) mdt

abbrev pub disturbs_ats : RingView → Carry → ℕ → List (List ℕ) → Bool
disturbs_ats r carry cycle [] = false
disturbs_ats r carry cycle (at ∷ ats) = disturbed_at carry (passage cycle kinds.At (station_of r (slice_index at 0)) 0) at ||
    disturbs_ats r carry cycle ats

abbrev pub is_disturbed_in : RingView → Carry → Restarts → ℕ → List SentView → Bool
is_disturbed_in r carry restarts cycle sent =
    any_below (length r.drives + 1) (restarts cycle)
    || (any_below (length r.drives) (disturbs_mst carry cycle (mst_in sent))
    || (disturbed_at carry (passage cycle kinds.Mst 0 0) (mst_in sent)
    || (disturbs_ats r carry cycle (ats_in sent) || any_below (length r.drives) (disturbs_mdt carry cycle (mdt_in sent)))))

-- the newest cycle of a journal
abbrev pub IsDisturbed : RingView → Carry → Restarts → CycleView → List CycleView → Type 0
IsDisturbed r carry restarts t j = is_disturbed_in r carry restarts (length j) t.sent ≡ true
