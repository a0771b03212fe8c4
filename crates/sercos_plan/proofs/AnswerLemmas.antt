-- What the answer that the least times give says of every plan.
use Rattle.std.proofs.Common.{◌≡◌, ℕ, ◌-◌, ◌*◌, ◌<◌, true, false, inl, inr, List, length, refl, sym, ap, subst, ◌∙◌, arith, slice_index}
use Rattle.std.specs.Prelude.{Result, Ok, IfOk, OnErr, map, nat_le, ◌&&◌}
use Rattle.std.specs.List.{range_with_len}
use Rattle.std.proofs.lemmas.Bool.{leb-true, le-leb, and_parts, and_from, cond-true, cond-false, cases_Bool, false≢true}
use Rattle.std.proofs.lemmas.List.FromFn.{length-map-range_with_len, get_or-map-range_with_len}
use Rattle.std.proofs.lemmas.Grind.{same_number_lists}
use Rattle.sercos_timing.specs.Views.{WishesView, PlanView}
use Rattle.sercos_timing.specs.Order.{sent, record_bytes}
use Rattle.sercos_timing.specs.Inequalities.{sum_9, bound_9, greatest_tmtsy, positions}
use Rattle.sercos_timing.specs.Valid.{IsValid}
use Rattle.sercos_plan.specs.Least.{IsLeast, NoneFits}
use Rattle.sercos_plan.specs.LeastTimes.{least_t1, least_t2, least_t3, greatest_t4min, is_roomy, least_plan}
use Rattle.sercos_plan.specs.Views.{ChainView}
use Rattle.sercos_plan.specs.ChainOf.{planned}
use Rattle.sercos_plan.proofs.PlanLemmas.{IsRoomy, IsOfLeast, made, made_same, is_least, none_fits, one_least}

-- the test of the bounds decides
pub roomy_test : (w : WishesView) → is_roomy w ≡ true → IsRoomy w
roomy_test w e =
    let outer = and_parts (nat_le (sum_9 w (w.rate * least_t2 w) (greatest_tmtsy w)) (bound_9 w) && nat_le (least_t3 w) w.cycle) (nat_le (greatest_t4min w) w.cycle) e in
    let inner = and_parts (nat_le (sum_9 w (w.rate * least_t2 w) (greatest_tmtsy w)) (bound_9 w)) (nat_le (least_t3 w) w.cycle) outer.0 in
    record { rule_8 = leb-true _ _ inner.1; rule_9 = leb-true _ _ inner.0; rule_10 = leb-true _ _ outer.1 }

pub test_roomy : (w : WishesView) → IsRoomy w → is_roomy w ≡ true
test_roomy w room = and_from _ _ (and_from _ _ (le-leb _ _ room.rule_9) (le-leb _ _ room.rule_8)) (le-leb _ _ room.rule_10)

-- the starting times of all drives as a list
pub starts_are : (w : WishesView) (t1 : List ℕ) → length t1 ≡ length w.drives → ((j : ℕ) → slice_index t1 j ≡ least_t1 w (sent w) j) →
    t1 ≡ map (least_t1 w (sent w)) (range_with_len 0 (length w.drives))
starts_are w t1 count value =
    same_number_lists t1 (map (least_t1 w (sent w)) (range_with_len 0 (length w.drives))) (count ∙ sym (length-map-range_with_len (least_t1 w (sent w)) 0 (length w.drives)))
    (λ k below. value k ∙ sym (get_or-map-range_with_len (least_t1 w (sent w)) 0 (length w.drives) k k 0 (within _ _ _ below count) (omega arith)))
  where
    within : (k n m : ℕ) → k < n → n ≡ m → k < m
    within k n m below same = omega arith

-- the plan of these times and places
pub plan_is : (w : WishesView) (t1 : List ℕ) (t2 t3 t4 : ℕ) (position : List ℕ) (mdt_len : ℕ) → length t1 ≡ length w.drives →
    ((j : ℕ) → slice_index t1 j ≡ least_t1 w (sent w) j) → t2 ≡ least_t2 w → t3 ≡ least_t3 w → t4 ≡ w.cycle - greatest_t4min w →
    position ≡ positions 1 w.drives → mdt_len ≡ record_bytes w.drives → made t1 t2 t3 t4 position mdt_len ≡ least_plan w
unfolding least_plan
plan_is w t1 t2 t3 t4 position mdt_len count value is_t2 is_t3 is_t4 is_position is_length =
    made_same t1 _ t2 _ t3 _ t4 _ position _ mdt_len _ (starts_are w t1 count value) is_t2 is_t3 is_t4 is_position is_length

pub is_of_least : (w : WishesView) → IsOfLeast w (least_plan w)
unfolding least_plan
is_of_least w = record {
  times = length-map-range_with_len (least_t1 w (sent w)) 0 (length w.drives);
  t1 = λ k below. get_or-map-range_with_len (least_t1 w (sent w)) 0 (length w.drives) k k 0 below (omega arith);
  t2 = refl;
  t3 = refl;
  t4 = refl;
  position = refl;
  mdt_len = refl;
}

module _ (w : WishesView) (valid : IsValid w) where
  roomy_least : is_roomy w ≡ true → IsLeast w (least_plan w)
  roomy_least room = is_least w (least_plan w) valid (is_of_least w) (roomy_test w room)

  pub full_none : is_roomy w ≡ false → NoneFits w
  full_none full = none_fits w valid (λ room. false≢true (sym full ∙ test_roomy w room))

  pub planned_least : (r : Result PlanView ChainView) → r ≡ planned w → IfOk r (IsLeast w)
  planned_least r is = elim (cases_Bool (is_roomy w)) [
    | inl room ↦ subst (λ (q : Result PlanView ChainView). IfOk q (IsLeast w)) (sym (is ∙ cond-true _ _ _ room)) (roomy_least room)
    | inr full ↦ subst (λ (q : Result PlanView ChainView). IfOk q (IsLeast w)) (sym (is ∙ cond-false _ _ _ full)) tt
  ]

  pub planned_none : (r : Result PlanView ChainView) → r ≡ planned w → OnErr r (NoneFits w)
  planned_none r is = elim (cases_Bool (is_roomy w)) [
    | inl room ↦ subst (λ (q : Result PlanView ChainView). OnErr q (NoneFits w)) (sym (is ∙ cond-true _ _ _ room)) tt
    | inr full ↦ subst (λ (q : Result PlanView ChainView). OnErr q (NoneFits w)) (sym (is ∙ cond-false _ _ _ full)) (full_none full)
  ]

  pub planned_only : (r : Result PlanView ChainView) → r ≡ planned w → (p : PlanView) → IsLeast w p → r ≡ Ok p
  planned_only r is p least = elim (cases_Bool (is_roomy w)) [
    | inl room ↦ is ∙ cond-true _ _ _ room ∙ ap Ok (one_least w (least_plan w) p (roomy_least room) least)
    | inr full ↦ absurd (full_none full p least.fits)
  ]
