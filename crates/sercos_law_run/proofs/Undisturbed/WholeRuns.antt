-- A run in which nothing is disturbed, from its opening on.
use Rattle.sercos_law_run.proofs.Words.{◌≡◌, ℕ, ◌+◌, ◌<◌, ◌≤◌, true, List, [], ◌∷◌, ◌++◌, length, Some, refl, sym, subst, RingView, answers_it, CycleView, Carry, Restarts, epoch_begun, Heard, age_in, drive_at, IsRun, IsClear, view_of, views_of, AreUndisturbed, IsUndisturbed, NeverDisturbed, StartsAgain, StartsUndisturbed}
use Rattle.std.proofs.lemmas.List.{append-nil}
use Rattle.sercos_law_run.proofs.Undisturbed.Arriving.StaysClear.{stays_clear}
use Rattle.sercos_law_run.proofs.Recovery.AfterFalls.{starts_again}

-- a journal after the empty one
never_disturbed : (r : RingView) (carry : Carry) (restarts : Restarts) (j : List CycleView) → NeverDisturbed r carry restarts j → AreUndisturbed r carry restarts j []
never_disturbed r carry restarts [] calm = tt
never_disturbed r carry restarts (t ∷ j) calm = (never_disturbed r carry restarts j calm.0, subst (IsUndisturbed r carry restarts t) (sym (append-nil j)) calm.1)

pub starts_up : StartsUndisturbed
starts_up r jobs carry restarts t j opened run calm = record {
  clear = subst (λ (l : List CycleView). IsClear (t ∷ l)) (append-nil j) clear_long;
  tells = s.tells;
  rises = s.rises;
  right = s.right;
  fit = s.fit;
  stays = s.stays;
  ends = s.ends;
  once = s.once;
  ages = λ k below. subst (λ (l : List CycleView). age_in (views_of r jobs carry restarts k (t ∷ l)) ≤ (drive_at r k).busy + 1) (append-nil j) (s.ages k below);
  answers = subst (λ (l : List CycleView). (k : ℕ) (a : Heard) → k < length r.drives → (view_of r jobs carry restarts k t l).heard ≡ Some a → answers_it (epoch_begun (views_of r jobs carry restarts k l)) a.status ≡ true →
      age_in (views_of r jobs carry restarts k l) ≡ (drive_at r k).busy + 1) (append-nil j) s.answers;
  reports = s.reports;
}
  where
    long : IsRun r jobs carry restarts (t ∷ (j ++ []))
    long = subst (λ (l : List CycleView). IsRun r jobs carry restarts (t ∷ l)) (sym (append-nil j)) run

    clear_long : IsClear (t ∷ (j ++ []))
    clear_long = stays_clear r jobs carry restarts (t ∷ j) [] long tt (never_disturbed r carry restarts (t ∷ j) calm)

    s : StartsAgain r jobs carry restarts t j []
    s = starts_again r jobs carry restarts opened t j [] long clear_long refl (never_disturbed r carry restarts (t ∷ j) calm)
