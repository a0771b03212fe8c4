-- The time slots of a ring whose drives hold one plan.
use Rattle.std.specs.Prelude.{◌≡◌, ℕ, ◌+◌, ◌*◌, ◌<◌, ◌≤◌, Bool, true, if◌then◌else◌, List, [], ◌∷◌, ◌++◌, length, map, Option, Some, None, slice_get}
use Rattle.std.specs.List.{All, AllPairs}
use Rattle.sercos_model.specs.Frames.{wire_bits}
use Rattle.sercos_timing.specs.Views.{PlanView}
use Rattle.sercos_timing.specs.Valid.{IsValid}
use Rattle.sercos_timing.specs.Inequalities.{Fits}
use Rattle.sercos_block.specs.declared.block.Block.{Block}
use Rattle.sercos_block.specs.Rings.{is_ring, record_len, wishes_of}
use Rattle.sercos_block.specs.Views.{RingView, DriveView}
use Rattle.sercos_command.specs.Checks.{number_at, carried_len}
use Rattle.sercos_trace.specs.Views.{SentView}
use Rattle.sercos_law_run.specs.Slots.Slots.{AtSlot, MdtSlot, Held, AreApart}
use Rattle.sercos_law_run.specs.Slots.OnPlan.{IsSentBefore}
use Rattle.sercos_law_run.specs.Slots.Sending.{IsApart, IsSending}
use Rattle.sercos_law_run.specs.Start.StartUp.{IsStoreOf, Holds, start_up}
use Rattle.sercos_law_run.specs.Start.Held.{held_in}

-- what each drive holds that takes part, which is one in phase 3 or 4
abbrev pub held_by : (ℕ → Bool) → (ℕ → List Block) → ℕ → Option Held
held_by takes_part stores k = if takes_part k then Some (held_in (stores k)) else None

-- What is sent in a cycle. Some of the drives that take part send, each at the T1 in its store, an AT with the address and the
-- values of its list. The master sends the MDT at the plan's T2, with a data record for each drive of the ring, of the length
-- that this drive requires.
pub record AreSent (r : RingView) (p : PlanView) (takes_part : ℕ → Bool) (stores : ℕ → List Block) (ats : List AtSlot)
    (mdt : MdtSlot) : Type 0 where
  pub senders : All (λ s. (s.drive < length r.drives) × (takes_part s.drive ≡ true)) ats
  pub starts : All (λ s. s.start ≡ r.rate * number_at (stores s.drive) 6) ats
  pub bits : All (λ s. s.bits ≤ wire_bits (1 + carried_len (stores s.drive) 16)) ats
  pub in_order : AllPairs IsSentBefore ats
  pub mdt_start : mdt.start ≡ r.rate * p.t2
  pub mdt_bits : mdt.bits ≤ wire_bits (1 + p.mdt_len)
  pub records : map length mdt.records ≡ map record_len r.drives

-- Each drive that takes part holds the start-up values of the plan.
abbrev pub AllHold : RingView → PlanView → (ℕ → Bool) → (ℕ → List Block) → Type 0
AllHold r p takes_part stores = (k : ℕ) (d : DriveView) → slice_get r.drives k ≡ Some d → takes_part k ≡ true →
    IsStoreOf d (stores k) × Holds (stores k) (start_up r.control r.cycle p k d.at d.mdt)

-- If the plan fits the ring's requirements, the slots are apart.
abbrev pub RingKeepsApart : Type 0
RingKeepsApart = (r : RingView) (p : PlanView) (takes_part : ℕ → Bool) (stores : ℕ → List Block) (ats : List AtSlot) (mdt : MdtSlot) →
    is_ring r ≡ true → IsValid (wishes_of r) → Fits (wishes_of r) p → AllHold r p takes_part stores →
    AreSent r p takes_part stores ats mdt →
    AreApart (wishes_of r) (held_by takes_part stores) ats mdt

-- So the telegrams are apart that are sent in these slots.
abbrev pub RingSendsApart : Type 0
RingSendsApart = (r : RingView) (p : PlanView) (takes_part : ℕ → Bool) (stores : ℕ → List Block) (ats : List AtSlot) (mdt : MdtSlot)
    (mst : SentView) (sent : List SentView) (last : SentView) →
    is_ring r ≡ true → IsValid (wishes_of r) → Fits (wishes_of r) p → AllHold r p takes_part stores →
    AreSent r p takes_part stores ats mdt →
    IsSending (wishes_of r) ats mdt mst sent last →
    IsApart (wishes_of r) (held_by takes_part stores) mdt.records (mst ∷ (sent ++ last ∷ []))
