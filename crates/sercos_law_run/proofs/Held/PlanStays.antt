-- Within a cycle of phases 3 and 4 the plan stays.
use Rattle.sercos_law_run.proofs.Words.{◌≡◌, inl, inr, ℕ, ◌≤◌, List, length, Some, None, refl, sym, ◌∙◌, ap, subst, arith, is_some, Job, PlanView, RingView, Known, known_of, Past, Call, after_mdt, fall_of, after_end, settles, CycleView, Carry, Restarts, mst_in, ats_in, at_calls, looks_back, master_calls, own_mst, begins, at_start, behind_ats, behind_mdt, cases_Bool}
use Rattle.sercos_law_run.proofs.Views.ViewRuns.{started}
use Rattle.sercos_law_run.proofs.Undisturbed.Arriving.AfterAt.{after_at_so, ats_same}

pub ats_plan : (r : RingView) (jobs : List Job) (carry : Carry) (cycle : ℕ) (ats : List (List ℕ)) (h : List Call) → (looks_back r jobs (at_calls r carry cycle ats h)).plan ≡ (looks_back r jobs h).plan
ats_plan = ats_same (λ (p : Past). p.plan) (λ s content p. after_at_so (λ q. q.plan ≡ p.plan) s content p refl (λ k. refl))

pub mdt_plan : (s : Known) (p : Past) (plan : PlanView) → p.plan ≡ Some plan → (after_mdt s p).plan ≡ Some plan
mdt_plan s p plan has =
    elim (settles s p).plan [ inl none ↦ let no : Some plan ≡ None = sym has ∙ none in absurd (cc) | inr same ↦ same ∙ has ]

pub end_plan : (s : Known) (p : Past) → 1 ≤ (after_end s p).now.phase → (after_end s p).plan ≡ p.plan
end_plan s p later = elim (cases_Bool (is_some (fall_of s p))) [ inl on ↦ absurd (omega (arith, (rw on at later))) | inr off ↦ rw off ]

-- the plan of the end of the cycle before
pub plan_kept : (r : RingView) (jobs : List Job) (carry : Carry) (restarts : Restarts) (t : CycleView) (j : List CycleView) (plan : PlanView) → 1 ≤ (at_start r jobs carry restarts j).now.phase
    → (looks_back r jobs (master_calls r carry restarts j)).plan ≡ Some plan → (behind_mdt r jobs carry restarts t.sent j).plan ≡ Some plan
plan_kept r jobs carry restarts t j plan later has =
    let at_first = started r jobs (restarts (length j) 0) (master_calls r carry restarts j) in
    mdt_plan (known_of r) (behind_ats r jobs carry restarts t.sent j) plan
    (ats_plan r jobs carry (length j) (ats_in t.sent) (own_mst carry (length j) (mst_in t.sent) (begins r carry restarts j)) ∙ ap (λ (p : Past). p.plan) at_first ∙ (elim (cases_Bool (restarts (length j) 0)) [
      | inl on ↦ let some = rw on at (subst (λ (p : Past). 1 ≤ p.now.phase) at_first later) in absurd (omega (arith, some))
      | inr off ↦ rw off has
    ]))
