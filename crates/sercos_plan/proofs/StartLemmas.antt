-- One more start, written into the list of all starts.
use Rattle.std.proofs.Common.{◌≡◌, ℕ, ◌*◌, ◌<◌, ◌≤◌, inl, inr, List, ◌∷◌, length, get_or, sym, ap, ◌∙◌, arith}
use Rattle.std.proofs.Math.ListN.{set}
use Rattle.std.proofs.lemmas.List.{get_or-set_other}
use Rattle.std.proofs.lemmas.Grind.{get_or-set_at}
use Rattle.std.specs.Prelude.{◌==◌}
use Rattle.std.proofs.lemmas.Bool.{cases_eq, cond-true, cond-false, eq-eqb, ne_eqb}
use Rattle.sercos_timing.specs.Views.{WishesView}
use Rattle.sercos_plan.specs.LeastTimes.{round_up, needed, least_t1, least_bits}
use Rattle.sercos_plan.proofs.LeastLemmas.{needed_same}

pub one_start : (w : WishesView) (t1 : List ℕ) (k v : ℕ) (before : List ℕ) → ((j : ℕ) → get_or t1 j 0 ≡ least_t1 w before j) → k < length t1 →
    v ≡ round_up w.rate (needed w (λ j. w.rate * get_or t1 j 0) k before) → (j : ℕ) → get_or (set t1 k v) j 0 ≡ least_t1 w (k ∷ before) j
one_start w t1 k v before so_far within is j = elim (cases_eq j k) [
  | inl same ↦
      get_or-set_at t1 k j v 0 same within ∙ is
      ∙ ap (λ n. round_up w.rate n) (needed_same w (λ i. w.rate * get_or t1 i 0) (least_bits w before) k before (λ i. ap (λ x. w.rate * x) (so_far i)))
      ∙ sym (cond-true (j == k) _ _ (eq-eqb j k same))
  | inr other ↦ get_or-set_other t1 k j v 0 other ∙ so_far j ∙ sym (cond-false (j == k) _ _ (ne_eqb j k other))
]

pub one_limit : (t1 : List ℕ) (k v n m : ℕ) → ((j : ℕ) → get_or t1 j 0 ≤ n) → k < length t1 → v ≤ m → n ≤ m → (j : ℕ) → get_or (set t1 k v) j 0 ≤ m
one_limit t1 k v n m so_far within below more j = elim (cases_eq j k) [
  | inl same ↦ let e = get_or-set_at t1 k j v 0 same within in omega arith
  | inr other ↦ let e = get_or-set_other t1 k j v 0 other in let le = so_far j in omega arith
]
