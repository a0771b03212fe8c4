-- A stop stays as long as the ring doesn't fall and the master doesn't restart.
use Rattle.sercos_law_run.proofs.Words.{◌≡◌, ℕ, true, List, ◌∷◌, length, Option, Some, None, refl, sym, ◌∙◌, ap, is_some, Job, RingView, Stop, CycleView, Known, known_of, Past, Call, first_trouble, with_due_plan, after_mdt, fall_of, due_stopped, stop_stays, Carry, Restarts, mst_in, ats_in, at_calls, looks_back, master_calls, own_mst, begins, at_start, behind_mdt, behind_ats, cases_Option, inl, inr}
use Rattle.sercos_law_run.proofs.Undisturbed.PhaseCounts.{end_kept}
use Rattle.sercos_law_run.proofs.Undisturbed.Arriving.AfterAt.{after_at_so}
pub use Rattle.sercos_law_run.proofs.Undisturbed.Arriving.AfterAt.{ats_same}

pub ats_stop : (r : RingView) (jobs : List Job) (carry : Carry) (cycle : ℕ) (ats : List (List ℕ)) (h : List Call) → (looks_back r jobs (at_calls r carry cycle ats h)).stop ≡ (looks_back r jobs h).stop
ats_stop = ats_same (λ (p : Past). p.stop) (λ s content p. after_at_so (λ q. q.stop ≡ p.stop) s content p refl (λ k. refl))

pub mdt_stop : (s : Known) (p : Past) → is_some p.stop ≡ true → (after_mdt s p).stop ≡ p.stop
mdt_stop s p some = ap (λ (q : Past). (with_due_plan s q).stop) (stop_stays (first_trouble s p) p some) ∙ ap (λ (q : Past). q.stop) (due_stopped s p some)

module _ (r : RingView) (jobs : List Job) (carry : Carry) (restarts : Restarts) where
  -- from the end of a cycle to the MDT's place of the next
  pub stop_kept : (t : CycleView) (j : List CycleView) → at_start r jobs carry restarts j ≡ looks_back r jobs (master_calls r carry restarts j) → is_some (looks_back r jobs (master_calls r carry restarts j)).stop ≡ true
      → (behind_mdt r jobs carry restarts t.sent j).stop ≡ (looks_back r jobs (master_calls r carry restarts j)).stop
  stop_kept t j same some = mdt_stop (known_of r) (behind_ats r jobs carry restarts t.sent j) (ap (λ (o : Option Stop). is_some o) before ∙ some) ∙ before
    where
      before : (behind_ats r jobs carry restarts t.sent j).stop ≡ (looks_back r jobs (master_calls r carry restarts j)).stop
      before = ats_stop r jobs carry (length j) (ats_in t.sent) (own_mst carry (length j) (mst_in t.sent) (begins r carry restarts j)) ∙ ap (λ (p : Past). p.stop) same

  pub none_before : (t : CycleView) (j : List CycleView) → at_start r jobs carry restarts j ≡ looks_back r jobs (master_calls r carry restarts j) → (behind_mdt r jobs carry restarts t.sent j).stop ≡ None
      → (looks_back r jobs (master_calls r carry restarts j)).stop ≡ None
  none_before t j same none = elim (cases_Option (looks_back r jobs (master_calls r carry restarts j)).stop) [
    | inl is ↦ is
    | inr (x, is) ↦ let both : None ≡ Some x = sym none ∙ stop_kept t j same (ap (λ (o : Option Stop). is_some o) is) ∙ is in absurd (cc)
  ]

  -- and to its end
  pub stop_after : (t : CycleView) (j : List CycleView) → fall_of (known_of r) (behind_mdt r jobs carry restarts t.sent j) ≡ None
      → (looks_back r jobs (master_calls r carry restarts (t ∷ j))).stop ≡ (behind_mdt r jobs carry restarts t.sent j).stop
  stop_after t j none = ap (λ (p : Past). p.stop) (end_kept (known_of r) (behind_mdt r jobs carry restarts t.sent j) none)
