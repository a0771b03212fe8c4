-- What the master keeps of its ring, and how it is related to its past. Used in proofs only.
use Rattle.std.specs.Prelude.{zero, suc, unwrap_or, ◌^◌, ◌%◌, slice_index_or, ◌≡◌, ℕ, ◌+◌, ◌<◌, ◌≤◌, ◌==◌, ◌++◌, nat_le, nat_lt, if◌then◌else◌, Bool, false, not, ◌&&◌, List, [], ◌∷◌, length, min, Option, Some, None, is_some}
use Rattle.sercos_step.specs.declared.request.Outcome.{Outcome}
use Rattle.std.specs.List.{position}
use Rattle.sercos_timing.specs.Views.{PlanView}
use Rattle.sercos_trace.specs.declared.events.Stop.{Stop}
use Rattle.sercos_master.specs.Annals.{Past, Turn, addressed_before, addressed_in, count_addressed, is_identified, place_of, sent_to, whole_row}
use Rattle.sercos_master.specs.Reports.{inserted, stop_told}
use Rattle.sercos_seat.specs.Channel.{is_place}
use Rattle.sercos_seat.specs.Ring.{IsKnown, Known, MemberView, member}
use Rattle.sercos_seat.specs.Seats.{SeatStandsFor, SeatView, Seen, nothing_seen, record_seen}

-- no AT was taken from the drive in the cycle before, though that was one of phase 3 or 4
abbrev pub has_missed : ℕ → List Turn → Bool
has_missed k [] = false
has_missed k (t ∷ turns) = nat_le 3 t.phase && not (t.heard k)

abbrev pub seen_at : Past → ℕ → Seen
seen_at p k = record {
  calls = p.calls k;
  tasks = p.tasks k;
  heard = p.now.heard k;
  missed = has_missed k p.turns;
  identified = is_identified p k;
  report = p.now.report k;
  stopped = is_some p.stop;
  waiting = p.waiting k;
}

-- What is kept of the ring: its numbers; the index of each address; a seat for each drive; the
-- cycle's number; the phase; whether the MST of the present cycle returned intact, how many did in
-- a row before, counted up to 10, and whether that of the cycle before didn't, in phases 1 to 4;
-- the drives that the MDT addresses and addressed; for how many cycles of phase 1 in a row it was
-- that drive; the plan and the stop, and whether they are of this cycle.
pub record CoreView : Type 0 where
  pub rate : ℕ
  pub cycle : ℕ
  pub control : ℕ
  pub gap : ℕ
  pub order : List ℕ
  pub places : List (Option ℕ)
  pub seats : List SeatView
  pub count : ℕ
  pub phase : ℕ
  pub whole : Bool
  pub row : ℕ
  pub lost : Bool
  pub addressed : Option ℕ
  pub before : Option ℕ
  pub waited : ℕ
  pub plan : Option PlanView
  pub plans : Bool
  pub stopped : Bool
  pub stop : Option Stop

abbrev pub has_lost : List Turn → Bool
has_lost [] = false
has_lost (t ∷ turns) = nat_le 1 t.phase && not t.whole

-- for how many of these cycles in a row the MDT addressed the drive of the newest one, counted up
-- to 64
abbrev pub waited_for : Option ℕ → List Turn → ℕ
waited_for None turns = 0
waited_for (Some k) turns = min (count_addressed k turns) 64

abbrev pub waited_row : List Turn → ℕ
waited_row [] = 0
waited_row (t ∷ turns) = waited_for t.addressed (t ∷ turns)

abbrev pub is_same : Option ℕ → Option ℕ → Bool
is_same None _ = false
is_same (Some i) other = is_place i other

-- this count after the end of a cycle
abbrev pub waited_with : ℕ → Option ℕ → Option ℕ → ℕ → ℕ
waited_with phase addressed before waited =
    if (phase == 1) && is_some addressed then (if is_same addressed before then min (waited + 1) 64 else 1) else 0

-- each seat keeps what its drive's telegrams determine
abbrev pub SeatsStandFor : List SeatView → Known → (ℕ → Seen) → Type 0
SeatsStandFor seats s seen = (k : ℕ) (v : SeatView) → k < length seats → SeatStandsFor (slice_index_or seats k v) (member s k) (seen k)

-- what is kept is determined by the past
pub record CoreStandsFor (v : CoreView) (s : Known) (p : Past) : Type 0 where
  pub rate_is : v.rate ≡ s.rate
  pub cycle_is : v.cycle ≡ s.cycle
  pub control_is : v.control ≡ s.control
  pub gap_is : v.gap ≡ s.gap
  pub order_is : v.order ≡ s.order
  pub places_are : (address : ℕ) → address < 256 → slice_index_or v.places address None ≡ place_of s address
  pub seats_count : length v.seats ≡ length s.drives
  pub seats : SeatsStandFor v.seats s (seen_at p)
  pub count_is : v.count ≡ p.cycle % 2 ^ 32
  pub phase_is : v.phase ≡ p.now.phase
  pub whole_is : v.whole ≡ p.now.whole
  pub row_is : v.row ≡ min (whole_row p.turns) 10
  pub lost_is : v.lost ≡ has_lost p.turns
  pub addressed_is : v.addressed ≡ p.now.addressed
  pub before_is : v.before ≡ addressed_before p.turns
  pub waited_is : v.waited ≡ waited_row p.turns
  pub plan_is : v.plan ≡ p.plan
  pub plans_is : v.plans ≡ p.now.plans
  pub stopped_is : v.stopped ≡ is_some p.stop
  pub stop_is : v.stop ≡ stop_told p

-- the data records of the first n drives
abbrev pub records_upto : Known → (ℕ → Seen) → ℕ → ℕ → List ℕ
records_upto s seen cycle zero = []
records_upto s seen cycle (suc n) = records_upto s seen cycle n ++ record_seen cycle (member s n) (seen n)

-- the same, in this phase
pub record IsIn (phase : ℕ) (v : CoreView) (s : Known) (p : Past) : Type 0 where
  pub stands : CoreStandsFor v s p
  pub known : IsKnown s
  pub phase_is : p.now.phase ≡ phase

-- the past after the MDT is sent
abbrev pub sent_now : Known → Past → Past
sent_now s p = sent_to (addressed_in s p) p

-- the data records fit an MDT
abbrev pub Fits : Known → Past → Type 0
Fits s p = 1 + length (records_upto s (seen_at p) p.cycle (length s.drives)) ≤ 2048

-- one more report, ascending by its number
abbrev pub with_pair : Option (ℕ × Outcome) → List (ℕ × Outcome) → List (ℕ × Outcome)
with_pair None reports = reports
with_pair (Some x) reports = inserted x.0 x.1 reports

abbrev pub place_in : ℕ → List (ℕ × Outcome) → ℕ
place_in number reports = unwrap_or (position (λ x. nat_lt number x.0) reports) (length reports)

-- each seat is that of its drive, before any telegram
abbrev pub AreFresh : List SeatView → List MemberView → Type 0
AreFresh seats members = (k : ℕ) (v : SeatView) (d : MemberView) → k < length seats →
    SeatStandsFor (slice_index_or seats k v) (slice_index_or members k d) (nothing_seen [])
