-- What holds in each cycle of a run without undetected damage so far. The newest cycle of a journal comes first.
use Rattle.std.specs.Prelude.{◌≡◌, ℕ, ◌*◌, ◌<◌, ◌≤◌, nat_le, Bool, true, List, [], ◌∷◌, length, max, slice_index, Ok}
use Rattle.std.specs.List.{All, filter}
use Rattle.sercos_hdlc.specs.Stuffed.{frame_of}
use Rattle.sercos_telegram.specs.Kinds.{is_mdt}
use Rattle.sercos_timing.specs.Views.{PlanView, WishesView}
use Rattle.sercos_plan.specs.ChainOf.{planned}
use Rattle.sercos_block.specs.declared.block.Block.{Block}
use Rattle.sercos_block.specs.Rings.{wishes_of}
use Rattle.sercos_block.specs.Views.{RingView}
use Rattle.sercos_drive.specs.Annals.{phase_at, store_at}
use Rattle.sercos_law_run.specs.Slots.Slots.{AtSlot}
use Rattle.sercos_law_run.specs.Slots.OnPlan.{held_of}
use Rattle.sercos_law_run.specs.Slots.Sending.{IsApart, ats_in, bit_time}
use Rattle.sercos_law_run.specs.Start.Held.{held_in}
use Rattle.sercos_law_run.specs.Start.RingSlots.{held_by}
use Rattle.sercos_trace.specs.Views.{SentView, CycleView}
use Rattle.sercos_script.specs.Links.{Carry, Restarts}
use Rattle.sercos_law_run.specs.Journal.Runs.{drive_at, given_mst}

-- the phase of the drive at place k in a cycle, after the MST's place, and its store there
abbrev pub phase_in_cycle : RingView → Carry → Restarts → CycleView → List CycleView → ℕ → ℕ
phase_in_cycle r carry restarts t j k = phase_at (drive_at r k) r.rate (given_mst carry restarts t.sent j k)

abbrev pub store_in_cycle : RingView → Carry → Restarts → CycleView → List CycleView → ℕ → List Block
store_in_cycle r carry restarts t j k = store_at (drive_at r k) r.rate (given_mst carry restarts t.sent j k)

-- a drive takes part in the slots if it is in phase 3 or 4
abbrev pub takes_part : RingView → Carry → Restarts → CycleView → List CycleView → ℕ → Bool
takes_part r carry restarts t j k = nat_le 3 (phase_in_cycle r carry restarts t j k)

-- each telegram has the bits of the frame of its content
abbrev pub HaveRealBits : List SentView → Type 0
HaveRealBits sent = All (λ s. s.bits ≡ length (frame_of s.content)) sent

-- APART. In a cycle commanded phase 3 or 4 the telegrams are apart, in their real bits, and keep the times that the drives declare. What
-- each drive in phase 3 or 4 holds agrees with the MDT, which consists of these data records.
abbrev pub AreApartIn : RingView → Carry → Restarts → CycleView → List CycleView → Type 0
AreApartIn r carry restarts t j =
    3 ≤ t.phase → (records : List (List ℕ)) ×
    IsApart (wishes_of r) (held_by (takes_part r carry restarts t j) (store_in_cycle r carry restarts t j)) records t.sent

-- The telegrams start by a plan, in bit times after the MST's end: each AT at the T1 of its drive, and the MDT at T2.
pub record StartOnPlan (w : WishesView) (p : PlanView) (sent : List SentView) : Type 0 where
  pub ats : All (λ (s : AtSlot). s.start ≡ w.rate * slice_index p.t1 s.drive) (ats_in w sent)
  pub mdt : All (λ (s : SentView). bit_time s.start ≡ w.rate * p.t2) (filter (λ (s : SentView). is_mdt s.kind) sent)

-- ON THE PLAN. In a cycle commanded phase 3 or 4 a plan fits the ring's requirements, and it is the one that is made of them: each drive
-- in phase 3 or 4 holds its values of it, and the telegrams start by it.
pub record IsOnPlan (r : RingView) (carry : Carry) (restarts : Restarts) (t : CycleView) (j : List CycleView) (p : PlanView)
    : Type 0 where
  pub made : planned (wishes_of r) ≡ Ok p
  pub held : (k : ℕ) → k < length r.drives → takes_part r carry restarts t j k ≡ true →
      held_in (store_in_cycle r carry restarts t j k) ≡ held_of p k
  pub starts : StartOnPlan (wishes_of r) p t.sent

abbrev pub AreOnPlanIn : RingView → Carry → Restarts → CycleView → List CycleView → Type 0
AreOnPlanIn r carry restarts t j = 3 ≤ t.phase → (p : PlanView) × IsOnPlan r carry restarts t j p

-- the phase that was commanded in the cycle before; before the first cycle it is 0
abbrev pub phase_before : List CycleView → ℕ
phase_before [] = 0
phase_before (t ∷ j) = t.phase

-- NO LATER. No drive is in a higher phase than the later one commanded in this cycle or the one before.
abbrev pub StandsNoLater : RingView → Carry → Restarts → CycleView → List CycleView → ℕ → Type 0
StandsNoLater r carry restarts t j k = phase_in_cycle r carry restarts t j k ≤ max t.phase (phase_before j)
