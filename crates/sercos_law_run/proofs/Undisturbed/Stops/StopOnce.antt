-- What tells a stop: a call leaves it as it is, once there is a stop; and at the end of a cycle nothing new is to tell.
use Rattle.sercos_law_run.proofs.Words.{◌≡◌, inl, inr, ℕ, Bool, true, false, List, [], ◌∷◌, length, refl, ap, ◌∙◌, is_some, cases_Bool, Job, RingView, CycleView, Known, known_of, Past, after_at, after_mdt, fall_of, first_trouble, with_due_plan, due_stopped, stop_stays, Carry, Restarts, looks_back, master_calls, at_start, behind_mdt}
use Rattle.sercos_law_run.proofs.Views.MasterSame.{begun_cycle}
use Rattle.sercos_law_run.proofs.Views.ViewRuns.{started}
use Rattle.sercos_law_run.proofs.Undisturbed.Arriving.AfterAt.{after_at_so}

pub at_stops : (s : Known) (content : List ℕ) (p : Past) → (after_at s content p).now.stops ≡ p.now.stops
at_stops s content p = after_at_so (λ q. q.now.stops ≡ p.now.stops) s content p refl (λ k. refl)

pub mdt_stops : (s : Known) (p : Past) → is_some p.stop ≡ true → (after_mdt s p).now.stops ≡ p.now.stops
mdt_stops s p some = ap (λ (q : Past). (with_due_plan s q).now.stops) (stop_stays (first_trouble s p) p some) ∙ ap (λ (q : Past). q.now.stops) (due_stopped s p some)

module _ (r : RingView) (jobs : List Job) (carry : Carry) (restarts : Restarts) where
  pub same_start : (j : List CycleView) → restarts (length j) 0 ≡ false → at_start r jobs carry restarts j ≡ looks_back r jobs (master_calls r carry restarts j)
  same_start j stays = started r jobs (restarts (length j) 0) (master_calls r carry restarts j) ∙ ap (λ (b : Bool). begun_cycle b (looks_back r jobs (master_calls r carry restarts j))) stays

  -- at the end of a cycle none is new
  pub none_new : (j : List CycleView) → (looks_back r jobs (master_calls r carry restarts j)).now.stops ≡ false
  none_new [] = refl
  none_new (t ∷ j) =
      elim (cases_Bool (is_some (fall_of (known_of r) (behind_mdt r jobs carry restarts t.sent j)))) [ inl on ↦ rw on | inr off ↦ rw off ]
