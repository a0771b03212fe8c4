-- The previous AT of a slave, as the order goes on.
use Rattle.std.proofs.Common.{◌≡◌, ℕ, suc, slice_index, sym, ◌∙◌}
use Rattle.std.specs.Prelude.{Option, Some}
use Rattle.std.proofs.lemmas.Bool.{cond-true, cond-false, eq-eqb, ne_eqb}
use Rattle.sercos_timing.specs.Views.{WishesView}
use Rattle.sercos_timing.specs.Order.{wish, same_slave, first_sent, previous, place_at}

-- one more AT, and it is of the same slave
pub one_previous : (w : WishesView) (k at : ℕ) (found : Option ℕ) → place_at w found ≡ previous w k (first_sent w.order at) →
    (wish w (slice_index w.order at)).slave ≡ (wish w k).slave → place_at w (Some at) ≡ previous w k (first_sent w.order (suc at))
one_previous w k at found so_far same = sym (cond-true (same_slave w (slice_index w.order at) k) _ _ (eq-eqb _ _ same))

-- and it is of another
pub other_previous : (w : WishesView) (k at : ℕ) (found : Option ℕ) → place_at w found ≡ previous w k (first_sent w.order at) →
    ((wish w (slice_index w.order at)).slave ≡ (wish w k).slave → ⊥) → place_at w found ≡ previous w k (first_sent w.order (suc at))
other_previous w k at found so_far other = so_far ∙ sym (cond-false (same_slave w (slice_index w.order at) k) _ _ (ne_eqb _ _ other))
