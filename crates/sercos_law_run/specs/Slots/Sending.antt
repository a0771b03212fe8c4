-- The telegrams of a cycle as its record has them, and that they are apart.
use Rattle.std.specs.Prelude.{◌≡◌, ℕ, ◌==◌, ◌<◌, List, [], ◌∷◌, ◌++◌, length, map, Option, slice_index, ℤ, pos, ◌+ℤ◌}
use Rattle.std.specs.List.{All, filter, position_or_len}
use Rattle.sercos_telegram.specs.Kinds.{is_mst, is_at, is_mdt}
use Rattle.sercos_telegram.specs.declared.layout.Kind.{Kind}
use Rattle.sercos_telegram.specs.declared.layout.Kind.TheVariants.{Mst, At, Mdt}
use Rattle.sercos_timing.specs.Views.{WishesView}
use Rattle.sercos_timing.specs.Order.{wish}
use Rattle.sercos_timing.specs.Valid.{IsValid}
use Rattle.sercos_trace.specs.Views.{SentView}
use Rattle.sercos_law_run.specs.Slots.Slots.{AtSlot, MdtSlot, Held, mdt_content, AreApart}

-- the bit time of a start that isn't before 0
abbrev pub bit_time : ℤ → ℕ
bit_time (pos n) = n
bit_time _ = 0

-- the place in the ring of the drive with an address
abbrev pub place_of : WishesView → ℕ → ℕ
place_of w address = position_or_len (λ d. d.address == address) w.drives

-- the slot of an AT, whose content begins with the address of its drive
abbrev pub at_slot : WishesView → SentView → AtSlot
at_slot w s = record { drive = place_of w (slice_index s.content 0); start = bit_time s.start; bits = s.bits }

-- the slot of an MDT that has these data records
abbrev pub mdt_slot : List (List ℕ) → SentView → MdtSlot
mdt_slot records s = record { start = bit_time s.start; bits = s.bits; records = records }

-- the slots of all ATs, in the order sent
abbrev pub ats_in : WishesView → List SentView → List AtSlot
ats_in w sent = map (at_slot w) (filter (λ s. is_at s.kind) sent)

-- The MST ends at 0, and no other telegram starts before that.
abbrev pub IsInCycleBy : Kind → ℤ → ℕ → Type 0
IsInCycleBy Mst start bits = start +ℤ pos bits ≡ pos 0
IsInCycleBy _ start bits = (n : ℕ) × (start ≡ pos n)

abbrev pub IsInCycle : SentView → Type 0
IsInCycle s = IsInCycleBy s.kind s.start s.bits

-- The telegrams of a cycle are apart: one MST and one MDT are sent, and any ATs. The MDT has these data records, those of all
-- drives in the order of the ring.
pub record IsApart (w : WishesView) (held : ℕ → Option Held) (records : List (List ℕ)) (sent : List SentView) : Type 0 where
  pub in_cycle : All IsInCycle sent
  pub mst : SentView
  pub one_mst : filter (λ s. is_mst s.kind) sent ≡ mst ∷ []
  pub mdt : SentView
  pub one_mdt : filter (λ s. is_mdt s.kind) sent ≡ mdt ∷ []
  pub content : mdt.content ≡ mdt_content (mdt_slot records mdt)
  pub apart : AreApart w held (ats_in w sent) (mdt_slot records mdt)

-- an AT that is sent in this slot, with the address of its drive
abbrev pub IsAtOf : WishesView → SentView → AtSlot → Type 0
IsAtOf w s a = (s.kind ≡ At) × (s.start ≡ pos a.start) × (s.bits ≡ a.bits) × (slice_index s.content 0 ≡ (wish w a.drive).address) ×
    (a.drive < length w.drives)

-- the ATs that are sent in these slots, in their order
abbrev pub AreAtsOf : WishesView → List SentView → List AtSlot → Type 0
AreAtsOf w [] [] = Unit {0}
AreAtsOf w (s ∷ sent) (a ∷ ats) = IsAtOf w s a × AreAtsOf w sent ats
AreAtsOf w _ _ = ⊥

-- What a cycle sends: an MST that ends at 0, then the ATs of these slots, then the MDT of this slot.
pub record IsSending (w : WishesView) (ats : List AtSlot) (mdt : MdtSlot) (mst : SentView) (sent : List SentView)
    (last : SentView) : Type 0 where
  pub mst_kind : mst.kind ≡ Mst
  pub mst_end : mst.start +ℤ pos mst.bits ≡ pos 0
  pub are_ats : AreAtsOf w sent ats
  pub mdt_kind : last.kind ≡ Mdt
  pub mdt_start : last.start ≡ pos mdt.start
  pub mdt_bits : last.bits ≡ mdt.bits
  pub mdt_is : last.content ≡ mdt_content mdt

-- If the slots are apart, so are the telegrams.
abbrev pub SendsSlots : Type 0
SendsSlots = (w : WishesView) (held : ℕ → Option Held) (ats : List AtSlot) (mdt : MdtSlot) (mst : SentView) (sent : List SentView)
    (last : SentView) →
    IsValid w → IsSending w ats mdt mst sent last → AreApart w held ats mdt → IsApart w held mdt.records (mst ∷ (sent ++ last ∷ []))
