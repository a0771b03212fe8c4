-- Why a ring falls: by what arrived at the master in its last cycles, or what is open on a channel, whatever the links do to telegrams.
-- Journals, turns and calls have the newest first; the ATs of a cycle are in the order in which they were sent.
use Rattle.std.specs.Prelude.{◌≡◌, ℕ, zero, suc, ◌+◌, ◌<◌, ◌≤◌, Bool, true, false, not, ◌&&◌, List, [], ◌∷◌, ◌++◌, length, Some, is_some, slice_index}
use Rattle.sercos_telegram.specs.Faults.{at_fault}
use Rattle.sercos_telegram.specs.declared.layout.Kind.TheVariants as kinds
use Rattle.sercos_step.specs.declared.request.Job.{Job}
use Rattle.sercos_block.specs.Views.{RingView}
use Rattle.sercos_service_master.specs.Begun.{answers_it, open_in}
use Rattle.sercos_service_master.specs.Calls.{Call, Begin, Send, Hear, EndCycle, begun_by}
use Rattle.sercos_seat.specs.Agenda.{at_len}
use Rattle.sercos_seat.specs.Ring.{known_of, member}
use Rattle.sercos_master.specs.Annals.{Past, Turn, is_mst, outcomes}
use Rattle.sercos_trace.specs.Views.{CycleView}
use Rattle.sercos_trace.specs.declared.events.Fall.{Fall}
use Rattle.sercos_trace.specs.declared.events.Fall.TheVariants.{MstLost, AtLost, StepLimit, Restart}
use Rattle.sercos_script.specs.Links.{Carry, Restarts}
use Rattle.sercos_law_run.specs.Journal.Arrivals.{heard, passage}
use Rattle.sercos_law_run.specs.Journal.Records.{mst_in, ats_in}
use Rattle.sercos_law_run.specs.Journal.Runs.{IsRun, drive_at, station_of}
use Rattle.sercos_law_run.specs.Held.Opened.{IsOpened}
use Rattle.sercos_law_run.specs.Views.RingViews.{behind_ats, behind_mdt}

-- The master's own MST comes back to it as one of the phase that it commanded.
abbrev pub comes_back : Carry → CycleView → List CycleView → Bool
comes_back carry t j = is_mst t.phase (heard carry (passage (length j) kinds.Mst 0 0) (mst_in t.sent))

-- MstLost: it didn't in this cycle, nor in the one before, and phase 1 to 4 was commanded in both.
pub record MissesMst (carry : Carry) (t : CycleView) (j : List CycleView) : Type 0 where
  pub now : comes_back carry t j ≡ false
  pub phase_now : 1 ≤ t.phase
  pub before : CycleView
  pub older : List CycleView
  pub follows : j ≡ before ∷ older
  pub lost : comes_back carry before older ≡ false
  pub phase : 1 ≤ before.phase

-- None of the ATs of a cycle, as it arrives, reads as that of the drive with this address, which has this many bytes after the address.
abbrev pub NoneReads : RingView → Carry → ℕ → ℕ → ℕ → List (List ℕ) → Type 0
NoneReads r carry cycle address len [] = Unit {0}
NoneReads r carry cycle address len (at ∷ ats) =
    ((content : List ℕ) → heard carry (passage cycle kinds.At (station_of r (slice_index at 0)) 0) at ≡ Some content →
    is_some (at_fault address len content) ≡ true)
    × NoneReads r carry cycle address len ats

-- The same in a cycle for the drive at a place. In phases 3 and 4 its length has been fixed since the reads of phase 2.
abbrev pub NoneReadsIn : RingView → List Job → Carry → Restarts → CycleView → List CycleView → ℕ → Type 0
NoneReadsIn r jobs carry restarts t j k =
    NoneReads r carry (length j) (drive_at r k).address
    (at_len (member (known_of r) k) (outcomes (behind_ats r jobs carry restarts t.sent j) k)) (ats_in t.sent)

-- AtLost: no AT read as the drive's in this cycle, nor in the one before, and phase 3 or 4 was commanded in both.
pub record MissesAt (r : RingView) (jobs : List Job) (carry : Carry) (restarts : Restarts) (t : CycleView) (j : List CycleView)
    (address : ℕ) : Type 0 where
  pub place : ℕ
  pub inside : place < length r.drives
  pub address_is : (drive_at r place).address ≡ address
  pub now : NoneReadsIn r jobs carry restarts t j place
  pub phase_now : 3 ≤ t.phase
  pub before : CycleView
  pub older : List CycleView
  pub follows : j ≡ before ∷ older
  pub lost : NoneReadsIn r jobs carry restarts before older place
  pub phase : 3 ≤ before.phase

-- how many cycles ended in these calls of a channel
abbrev pub cycles_ended : List Call → ℕ
cycles_ended [] = 0
cycles_ended (EndCycle ∷ h) = cycles_ended h + 1
cycles_ended (call ∷ h) = cycles_ended h

-- whether a record was sent in these calls of a channel since its newest request, or since the newest answer to it
abbrev pub was_sent : List Call → Bool
was_sent [] = false
was_sent (Begin r ∷ h) = false
was_sent (Send ∷ h) = true
was_sent (Hear status word ∷ h) = not (answers_it (begun_by h) status) && was_sent h
was_sent (EndCycle ∷ h) = was_sent h

-- The open step of a channel was first sent n cycles ago; since then no answer was taken and no request begun.
pub record IsOpenFor (h : List Call) (n : ℕ) : Type 0 where
  pub newer : List Call
  pub older : List Call
  pub split : h ≡ newer ++ Send ∷ older
  pub waits : is_some (open_in (begun_by older)) ≡ true
  pub first : was_sent older ≡ false
  pub same : begun_by h ≡ begun_by older
  pub count : cycles_ended newer ≡ n

-- In each of the n newest turns phase 1 was commanded and the MDT was to the drive at this place.
abbrev pub AreTo : ℕ → ℕ → List Turn → Type 0
AreTo k zero turns = Unit {0}
AreTo k (suc n) [] = ⊥
AreTo k (suc n) (t ∷ turns) = (t.phase ≡ 1) × (t.addressed ≡ Some k) × AreTo k n turns

-- StepLimit: in phase 1 the MDT was to the drive in this cycle and in the 64 before it, and not in the one before these; later its open
-- step was first sent 64 cycles ago.
pub data IsLate (p : Past) (k : ℕ) : Type 0 where
  Identification : p.now.phase ≡ 1 → AreTo k 65 (p.now ∷ p.turns) → (AreTo k 66 (p.now ∷ p.turns) → ⊥) → IsLate p k
  Step : IsOpenFor (p.calls k) 64 → IsLate p k

-- The drive with this address is late after the MDT of the cycle.
pub record HasNoAnswer (r : RingView) (jobs : List Job) (carry : Carry) (restarts : Restarts) (t : CycleView) (j : List CycleView)
    (address : ℕ) : Type 0 where
  pub place : ℕ
  pub inside : place < length r.drives
  pub address_is : (drive_at r place).address ≡ address
  pub late : IsLate (behind_mdt r jobs carry restarts t.sent j) place

-- A fall that is reported has its cause; that of a restart is one of the master in this cycle.
abbrev pub HasCause : RingView → List Job → Carry → Restarts → CycleView → List CycleView → Fall → Type 0
HasCause r jobs carry restarts t j MstLost = MissesMst carry t j
HasCause r jobs carry restarts t j (AtLost address) = MissesAt r jobs carry restarts t j address
HasCause r jobs carry restarts t j (StepLimit address) = HasNoAnswer r jobs carry restarts t j address
HasCause r jobs carry restarts t j Restart = restarts (length j) 0 ≡ true

abbrev pub FallsForCause : RingView → List Job → Carry → Restarts → CycleView → List CycleView → Type 0
FallsForCause r jobs carry restarts t j = (f : Fall) → t.events.fall ≡ Some f → HasCause r jobs carry restarts t j f

-- So it is in each cycle of a run, whatever arrives, undetected damage too.
abbrev pub FallsHaveCause : Type 0
FallsHaveCause = (r : RingView) (jobs : List Job) (carry : Carry) (restarts : Restarts) (t : CycleView) (j : List CycleView)
    → IsOpened r jobs → IsRun r jobs carry restarts (t ∷ j) → FallsForCause r jobs carry restarts t j

-- OF SEVERAL CAUSES the own MST is the first: if the master misses it for the second time in a row, that is the fall, whatever else is
-- missing.
abbrev pub MstComesFirst : Type 0
MstComesFirst = (r : RingView) (jobs : List Job) (carry : Carry) (restarts : Restarts) (t : CycleView) (j : List CycleView) →
    IsOpened r jobs
    → IsRun r jobs carry restarts (t ∷ j) → MissesMst carry t j → t.events.fall ≡ Some MstLost
