-- In an undisturbed cycle MST and MDT come to each drive.
use Rattle.sercos_law_run.proofs.Words.{◌≡◌, inl, inr, ℕ, ◌+◌, ◌<◌, ◌≤◌, Bool, true, false, List, ◌∷◌, length, Option, Some, None, refl, sym, ◌∙◌, ap, ap₂, subst, is_some, cond-false, mst_content, Job, PlanView, RingView, mst_got, mdt_got, phase_in, blocks_in, CycleView, known_of, mdt_said, Carry, Restarts, standing, stood_in, command, passage, mst_in, mdt_in, drive_at, given_mst, master_calls, looks_back, mdt_heard, said_below, content_of, disturbs_mdt, IsRun, IsClear, at_start, behind_mdt, told_to, gets_record, after_mst, view_of, views_of, IsOpened, IsUndisturbed, stands_as_commanded, arith}
use Rattle.sercos_telegram.specs.declared.layout.Kind.TheVariants as kinds
use Rattle.sercos_law_run.proofs.Journal.RunLemmas.{mdt_in-said}
use Rattle.sercos_law_run.proofs.Views.MasterSame.{begun_cycle}
use Rattle.sercos_law_run.specs.Views.Spelled.{IsWhole as IsWholeContent}
use Rattle.sercos_law_run.proofs.Views.Codecs.{mst_clear}
use Rattle.sercos_law_run.proofs.Views.Received.{Agrees}
use Rattle.sercos_law_run.proofs.Views.ViewRuns.{command_below, started}
use Rattle.sercos_law_run.proofs.Held.Runs.{holding, agrees}
use Rattle.sercos_law_run.proofs.Headline.HeadlineRuns.{first_store, all_stand}
use Rattle.sercos_law_run.proofs.Undisturbed.Arriving.Arrivals.{heard_sent}
use Rattle.sercos_law_run.proofs.Undisturbed.Arriving.Addressed.{told_then, IsTold, told_got}
use Rattle.sercos_law_run.proofs.Undisturbed.Arriving.Phases.{not_up}
use Rattle.sercos_law_run.proofs.Undisturbed.Arriving.Sending.{spelled, stored, all, stood_is, phase_then, started_late}
use Rattle.sercos_law_run.proofs.Undisturbed.Arriving.Comes.{IsCalm, calm_in}

-- What is heard of an MDT that is sent.
mdt_sent : (carry : Carry) (cycle k : ℕ) (o : Option (List ℕ)) (content : List ℕ) → o ≡ Some content → disturbs_mdt carry cycle o k ≡ false → IsWholeContent content → mdt_heard carry cycle (k + 1) o ≡ Some content
mdt_sent carry cycle k None content is still whole = cc
mdt_sent carry cycle k (Some x) content is still whole =
    let same : x ≡ content = cc in
    heard_sent carry (passage cycle kinds.Mdt 0 (k + 1)) x (subst IsWholeContent (sym same) whole) still ∙ ap (λ (c : List ℕ). Some c) same

module _ (r : RingView) (jobs : List Job) (carry : Carry) (restarts : Restarts) (opened : IsOpened r jobs) where
  module _ (t : CycleView) (j : List CycleView) (run : IsRun r jobs carry restarts (t ∷ j)) (clear : IsClear (t ∷ j))
      (undisturbed : IsUndisturbed r carry restarts t j) where
    pub still : IsCalm r carry restarts (length j) t.sent
    still = calm_in r carry restarts t j undisturbed

    pub drive_in : (k : ℕ) → k < length r.drives → restarts (length j) (k + 1) ≡ false
    drive_in k below = still.stays (k + 1) (omega (arith, below))

    pub master_in : restarts (length j) 0 ≡ false
    master_in = still.stays 0 (omega arith)

    pub start_is : at_start r jobs carry restarts j ≡ looks_back r jobs (master_calls r carry restarts j)
    start_is = started r jobs (restarts (length j) 0) (master_calls r carry restarts j) ∙ ap (λ (b : Bool). begun_cycle b (looks_back r jobs (master_calls r carry restarts j))) master_in

    pub commanded_in : (k : ℕ) → k < length r.drives → t.phase ≡ command (views_of r jobs carry restarts k j)
    commanded_in k below = (all_stand r jobs carry restarts opened (t ∷ j) run clear k below).sees.run.1.commanded ∙ cond-false (restarts (length j) 0) 0 (command (views_of r jobs carry restarts k j)) master_in

    -- the MST
    pub mst_came : (k : ℕ) → k < length r.drives → (view_of r jobs carry restarts k t j).mst_comes ≡ true
    mst_came k below =
        let sent : mst_in t.sent ≡ mst_content (at_start r jobs carry restarts j).now.phase = ap mst_in run.1.sent in
        let low : (at_start r jobs carry restarts j).now.phase ≤ 4 = subst (λ (n : ℕ). n ≤ 4) (sym (commanded_in k below) ∙ run.1.phase) (command_below (drive_at r k).busy (views_of r jobs carry restarts k j) (all r jobs carry restarts opened t j run clear k below).sees.run) in
        ap (λ (o : Option ℕ). is_some o)
        (ap mst_got (heard_sent carry (passage (length j) kinds.Mst 0 (k + 1)) (mst_in t.sent) (spelled r jobs carry restarts opened t j run clear).mst (still.mst k below) ∙ ap (λ (c : List ℕ). Some c) sent)
        ∙ mst_clear (at_start r jobs carry restarts j).now.phase (Some (mst_content (at_start r jobs carry restarts j).now.phase)) low (inr refl))

    pub stands_in : (k : ℕ) → k < length r.drives → 1 ≤ stood_in (view_of r jobs carry restarts k t j) (standing (views_of r jobs carry restarts k j)) → phase_in (after_mst r carry restarts t.sent j k) ≡ t.phase
    stands_in k below up = stood_is r jobs carry restarts opened t j run clear k below
        ∙ (elim (stands_as_commanded (view_of r jobs carry restarts k t j) (views_of r jobs carry restarts k j) (mst_came k below)) [
          | inl none ↦ absurd (not_up _ none up)
          | inr same ↦ same
        ])

    -- the MDT
    pub mdt_came : (k : ℕ) → k < length r.drives → is_some (told_to (behind_mdt r jobs carry restarts t.sent j) k) ≡ true → 1 ≤ stood_in (view_of r jobs carry restarts k t j) (standing (views_of r jobs carry restarts k j))
        → gets_record r carry restarts t.sent j k ≡ true
    mdt_came k below some up =
        let stands = stands_in k below up in
        let one : 1 ≤ (behind_mdt r jobs carry restarts t.sent j).now.phase = subst (λ (n : ℕ). 1 ≤ n) (sym (stood_is r jobs carry restarts opened t j run clear k below) ∙ stands ∙ sym (phase_then r jobs carry restarts opened t j run clear)) up in
        let told : IsTold r (behind_mdt r jobs carry restarts t.sent j) k (blocks_in (drive_at r k) (after_mst r carry restarts t.sent j k)) =
        told_got r (behind_mdt r jobs carry restarts t.sent j) k (blocks_in (drive_at r k) (after_mst r carry restarts t.sent j k)) opened.valid below one (told_then (behind_mdt r jobs carry restarts t.sent j) k some) (spelled r jobs carry restarts opened t j run clear).said
        (λ late. planned late (stands ∙ sym (phase_then r jobs carry restarts opened t j run clear))) in
        ap₂ (λ (n : ℕ) (o : Option (List ℕ)). is_some (mdt_got (drive_at r k).address n (blocks_in (drive_at r k) (after_mst r carry restarts t.sent j k)) o)) (stands ∙ sym (phase_then r jobs carry restarts opened t j run clear))
        (mdt_sent carry (length j) k (mdt_in t.sent) told.sent.content (sent_is ∙ ap content_of told.said) (still.mdt k below) ((spelled r jobs carry restarts opened t j run clear).mdt told.sent told.said)) ∙ told.got
      where
        sent_is : mdt_in t.sent ≡ content_of (mdt_said (known_of r) (behind_mdt r jobs carry restarts t.sent j))
        sent_is = ap mdt_in run.1.sent ∙ mdt_in-said r.rate (said_below (length r.drives) (drive_at r) r.rate (given_mst carry restarts t.sent j)) (mdt_said (known_of r) (behind_mdt r jobs carry restarts t.sent j))

        planned : 3 ≤ (behind_mdt r jobs carry restarts t.sent j).now.phase → phase_in (after_mst r carry restarts t.sent j k) ≡ (behind_mdt r jobs carry restarts t.sent j).now.phase
            → (plan : PlanView) × ((behind_mdt r jobs carry restarts t.sent j).plan ≡ Some plan) × Agrees (known_of r) (behind_mdt r jobs carry restarts t.sent j) k (blocks_in (drive_at r k) (after_mst r carry restarts t.sent j k))
        planned late same =
            let (plan, of_ring, holds) = holding r jobs carry restarts opened (first_store r jobs carry restarts opened) t j run.1 clear.1 (spelled r jobs carry restarts opened t j run clear) (stored r jobs carry restarts opened t j run clear) (all r jobs carry restarts opened t j run clear) (started_late r jobs carry restarts opened t j run clear (subst (λ (n : ℕ). 3 ≤ n) (phase_then r jobs carry restarts opened t j run clear) late)) k below in
            (plan, of_ring.now, agrees r jobs carry restarts opened (first_store r jobs carry restarts opened) t j run.1 clear.1 (spelled r jobs carry restarts opened t j run clear) (stored r jobs carry restarts opened t j run clear) (all r jobs carry restarts opened t j run clear) k below plan late (subst (λ (n : ℕ). 3 ≤ n) (sym same) late) of_ring.now)
