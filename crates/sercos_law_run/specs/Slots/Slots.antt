-- The time slots of a cycle in which phase 3 or 4 is commanded, and what keeps them apart. Times without a unit are bit times
-- after the end of the cycle's MST; declared times, the gap, the cycle and what a drive holds of the plan are in microseconds, `w.rate`
-- bits each.
use Rattle.std.specs.Prelude.{◌≡◌, ℕ, ◌+◌, ◌*◌, ◌≤◌, ◌<◌, ◌⊎◌, true, if◌then◌else◌, List, [], ◌∷◌, map, length, take, drop, Option, Some, slice_index_or}
use Rattle.std.specs.List.{All, AllPairs, concat}
use Rattle.sercos_model.specs.Frames.{wire_bits}
use Rattle.sercos_telegram.specs.Spells.{all_drives}
use Rattle.sercos_timing.specs.Views.{WishesView}
use Rattle.sercos_timing.specs.Order.{wish, times, same_slave}

-- An AT on the line: the place of its drive in the ring, its start, and its real bits.
pub record AtSlot : Type 0 where
  pub drive : ℕ
  pub start : ℕ
  pub bits : ℕ

abbrev pub end_of : AtSlot → ℕ
end_of s = s.start + s.bits

-- The MDT on the line: its start, its real bits, and the data records that follow its address, those of all drives in the
-- order of the ring.
pub record MdtSlot : Type 0 where
  pub start : ℕ
  pub bits : ℕ
  pub records : List (List ℕ)

abbrev pub mdt_end : MdtSlot → ℕ
mdt_end m = m.start + m.bits

abbrev pub mdt_content : MdtSlot → List ℕ
mdt_content m = all_drives ∷ concat m.records

-- the data record of the drive at place k, and the byte of the content at which it begins; the address is byte 0
abbrev pub slot_record : MdtSlot → ℕ → List ℕ
slot_record m k = slice_index_or m.records k []

abbrev pub record_start : MdtSlot → ℕ → ℕ
record_start m k = 1 + length (concat (take k m.records))

-- What a drive holds of the plan: T1 (S-0-0006), T4 (S-0-0007), T3 (S-0-0008), the position of its data record (S-0-0009), the
-- length of the MDT (S-0-0010) and T2 (S-0-0089).
pub record Held : Type 0 where
  pub t1 : ℕ
  pub t4 : ℕ
  pub t3 : ℕ
  pub position : ℕ
  pub mdt_len : ℕ
  pub t2 : ℕ

-- An AT starts at the T1 that its drive holds. So its drive is one that holds a plan.
abbrev pub IsAtItsTime : WishesView → (ℕ → Option Held) → AtSlot → Type 0
IsAtItsTime w held s = (h : Held) × (held s.drive ≡ Some h) × (s.start ≡ w.rate * h.t1)

-- Between two ATs is the gap. One AT may follow another of the same slave at once.
abbrev pub pause : WishesView → AtSlot → AtSlot → ℕ
pause w earlier later = if same_slave w earlier.drive later.drive then 0 else w.rate * w.gap

abbrev pub HasPause : WishesView → AtSlot → AtSlot → Type 0
HasPause w earlier later = end_of earlier + pause w earlier later ≤ later.start

-- A slave's transmitter recovers after each of its ATs before it sends another.
abbrev pub HasRecovered : WishesView → AtSlot → AtSlot → Type 0
HasRecovered w earlier later =
    same_slave w earlier.drive later.drive ≡ true → end_of earlier + w.rate * (times w later.drive).tatat ≤ later.start

-- Two data records, by their first byte and length, share no byte.
abbrev pub AreSeparate : ℕ → ℕ → ℕ → ℕ → Type 0
AreSeparate a a_len b b_len = (a + a_len ≤ b) ⊎ (b + b_len ≤ a)

-- What the drive at place k, which holds h, needs of the cycle.
pub record IsServed (w : WishesView) (mdt : MdtSlot) (k : ℕ) (h : Held) : Type 0 where
  -- the MDT starts at the T2 that the drive holds
  pub t2 : mdt.start ≡ w.rate * h.t2
  -- the drive's time to process command values has passed when they take effect, and that is within the cycle
  pub t3 : mdt_end mdt + w.rate * (times w k).tmtsg ≤ w.rate * h.t3
  pub t3_in_cycle : h.t3 ≤ w.cycle
  -- from the capture of feedback values to the end of the cycle, the drive has its time
  pub t4 : h.t4 + (times w k).t4min ≤ w.cycle
  -- its data record begins at the position that it holds, and there it reads the whole record
  pub position : h.position ≡ record_start mdt k
  pub there : take (wish w k).record_len (drop h.position (mdt_content mdt)) ≡ slot_record mdt k
  -- the MDT has the length that the drive holds, and the record lies within it
  pub mdt_len : h.mdt_len + 1 ≡ length (mdt_content mdt)
  pub inside : (1 ≤ h.position) × (h.position + (wish w k).record_len ≤ h.mdt_len + 1)
  -- no other drive's data record shares a byte with it
  pub apart : (j : ℕ) → j < length w.drives → (j ≡ k → ⊥) →
      AreSeparate h.position (wish w k).record_len (record_start mdt j) (wish w j).record_len

-- The ATs of a cycle, in the order sent, and its MDT are apart. Here w has the ring's times and lengths, and `held` is what each
-- drive holds that is in phase 3 or 4.
pub record AreApart (w : WishesView) (held : ℕ → Option Held) (ats : List AtSlot) (mdt : MdtSlot) : Type 0 where
  -- each AT is that of a drive of the ring
  pub of_ring : All (λ s. s.drive < length w.drives) ats
  -- each AT starts at the time that its drive holds, and not before the drive can send
  pub at_times : All (IsAtItsTime w held) ats
  pub ready : All (λ s. w.rate * (times w s.drive).t1min ≤ s.start) ats
  -- the gap is after the MST, between any two ATs of different slaves, and before the MDT; and no AT starts before an earlier
  -- one has ended
  pub after_mst : All (λ s. w.rate * w.gap ≤ s.start) ats × (w.rate * w.gap ≤ mdt.start)
  pub pauses : AllPairs (HasPause w) ats
  pub before_mdt : All (λ s. end_of s + w.rate * w.gap ≤ mdt.start) ats
  -- no slave sends before its transmitter has recovered
  pub recovered : AllPairs (HasRecovered w) ats
  -- the MDT starts when each drive that has sent can receive again
  pub receive : All (λ s. end_of s + w.rate * (times w s.drive).tatmt ≤ mdt.start) ats
  -- the MDT has a data record for each drive of the ring, of the length that this drive requires
  pub records : map length mdt.records ≡ map (λ d. d.record_len) w.drives
  -- what each drive holds agrees with the MDT
  pub served : (k : ℕ) (h : Held) → k < length w.drives → held k ≡ Some h → IsServed w mdt k h
  -- after the MDT there is time for the gap, and for each drive to recover, before the next MST. That ends with the cycle.
  pub room : mdt_end mdt + w.rate * w.gap + wire_bits 2 ≤ w.rate * w.cycle
  pub room_of_each : (k : ℕ) → k < length w.drives → mdt_end mdt + w.rate * (times w k).tmtsy + wire_bits 2 ≤ w.rate * w.cycle
