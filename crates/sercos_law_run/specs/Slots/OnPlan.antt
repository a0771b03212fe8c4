-- A cycle's telegrams, if every drive that takes part holds the values of one plan.
use Rattle.std.specs.Prelude.{◌≡◌, ℕ, ◌*◌, ◌≤◌, ◌<◌, ◌⊎◌, List, length, map, slice_index, Option, Some}
use Rattle.std.specs.List.{All, AllPairs}
use Rattle.sercos_timing.specs.Views.{WishesView, PlanView}
use Rattle.sercos_timing.specs.Order.{at_bits, mdt_bits}
use Rattle.sercos_timing.specs.Valid.{IsValid}
use Rattle.sercos_timing.specs.Inequalities.{Fits}
use Rattle.sercos_law_run.specs.Slots.Slots.{AtSlot, MdtSlot, Held, IsAtItsTime, AreApart}

-- what the drive at place k of the ring holds of a plan
abbrev pub held_of : PlanView → ℕ → Held
held_of p k = record {
  t1 = slice_index p.t1 k;
  t4 = p.t4;
  t3 = p.t3;
  position = slice_index p.position k;
  mdt_len = p.mdt_len;
  t2 = p.t2;
}

-- ATs are sent in order of start, and those of one start in the order of the ring. So no drive sends two.
abbrev pub IsSentBefore : AtSlot → AtSlot → Type 0
IsSentBefore s t = (s.start < t.start) ⊎ ((s.start ≡ t.start) × (s.drive < t.drive))

-- Any drives send, each at the T1 that it holds. The master sends at the plan's T2, with a data record for each drive of the
-- length that this drive requires. No telegram has more bits than a frame of its content can have.
pub record AreOnPlan (w : WishesView) (p : PlanView) (held : ℕ → Option Held) (ats : List AtSlot) (mdt : MdtSlot) : Type 0 where
  pub holds : (k : ℕ) (h : Held) → k < length w.drives → held k ≡ Some h → h ≡ held_of p k
  pub drives : All (λ s. s.drive < length w.drives) ats
  pub starts : All (IsAtItsTime w held) ats
  pub bits : All (λ s. s.bits ≤ at_bits w s.drive) ats
  pub in_order : AllPairs IsSentBefore ats
  pub mdt_start : mdt.start ≡ w.rate * p.t2
  pub mdt_bits : mdt.bits ≤ mdt_bits w
  pub records : map length mdt.records ≡ map (λ d. d.record_len) w.drives

-- If every drive that takes part holds the values of one plan that fits, the slots of the cycle are apart, even if ATs are
-- missing.
abbrev pub PlanKeepsApart : Type 0
PlanKeepsApart = (w : WishesView) (p : PlanView) (held : ℕ → Option Held) (ats : List AtSlot) (mdt : MdtSlot) →
    IsValid w → Fits w p → AreOnPlan w p held ats mdt → AreApart w held ats mdt
