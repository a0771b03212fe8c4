-- The order lists each drive, and an address leads back to its AT.
use Rattle.std.proofs.Common.{◌≡◌, ℕ, zero, suc, ◌<◌, ◌≤◌, ◌⊎◌, inl, inr, true, false, List, [], ◌∷◌, length, slice_index, refl, sym, ap, ◌∙◌, arith}
use Rattle.std.specs.Prelude.{slice_index_or}
use Rattle.std.specs.List.{AllByRecursion, list_any, IsDistinct}
use Rattle.std.proofs.Math.Dec.{eqb}
use Rattle.std.proofs.lemmas.Bool.{cases_eq, cases_order, cond-true, cond-false, eqb-true, eq-eqb, ne_eqb, or_cases}
use Rattle.std.proofs.lemmas.Map.Steps.{length-le_from_distinct_below}
use Rattle.sercos_timing.specs.Views.{WishesView}
use Rattle.sercos_timing.specs.Order.{no_wish, wish, sent, first_sent}
use Rattle.sercos_timing.specs.Inequalities.{greatest}
use Rattle.sercos_timing.specs.Valid.{IsValid}
use Rattle.sercos_timing.specs.declared.wishes.Wish.{Wish}
use Rattle.sercos_plan.specs.Chains.{up_to}
use Rattle.sercos_plan.specs.ChainOf.{greatest_of, first_with, first_greatest}
use Rattle.sercos_plan.proofs.LeastLemmas.{Among, AreApart}
use Rattle.sercos_plan.proofs.PlanLemmas.{among_first, among_within, among_greatest, distinct_sent, length_first}
use Rattle.sercos_plan.proofs.SoundLemmas.{apart_at}
use Rattle.sercos_plan.proofs.TrailLemmas.{apart}

-- numbers that differ and lie below n are n at most, so n of them are all
none_equal : (k : ℕ) (ks : List ℕ) → (Among k ks → ⊥) → AllByRecursion (λ y. eqb k y ≡ false) ks
none_equal k [] fresh = tt
none_equal k (j ∷ ks) fresh = (ne_eqb k j (λ e. fresh (inl e)), none_equal k ks (λ h. fresh (inr h)))

all_differ : (ks : List ℕ) → AreApart ks → IsDistinct eqb ks
unfolding IsDistinct
all_differ [] h = tt
all_differ (k ∷ ks) h = (none_equal k ks h.0, all_differ ks h.1)

among_any : (q : ℕ) (ks : List ℕ) → list_any (eqb q) ks ≡ true → Among q ks
among_any q [] h = cc
among_any q (k ∷ ks) h = elim (or_cases (eqb q k) (list_any (eqb q) ks) h) [
  | inl same ↦ inl (eqb-true q k same)
  | inr rest ↦ inr (among_any q ks rest)
]

among_or_not : (k : ℕ) (ks : List ℕ) → Among k ks ⊎ (Among k ks → ⊥)
among_or_not k [] = inr (λ h. h)
among_or_not k (j ∷ ks) = elim (cases_eq k j) [
  | inl same ↦ inl (inl same)
  | inr other ↦ elim (among_or_not k ks) [
    | inl h ↦ inl (inr h)
    | inr fresh ↦ inr (λ h. elim h [ inl e ↦ other e | inr rest ↦ fresh rest ])
  ]
]

pub listed : (w : WishesView) → IsValid w → (k : ℕ) → k < length w.drives → Among k (sent w)
listed w valid k within = elim (among_or_not k (sent w)) [
  | inl h ↦ h
  | inr fresh ↦
      let most = length-le_from_distinct_below (k ∷ sent w) (length w.drives) (all_differ (k ∷ sent w) (fresh, distinct_sent w valid)) (λ q h. below q (among_any q (k ∷ sent w) h)) in
      let count = length_first w.order (length w.order) in
      let same = valid.order.count in
      absurd (omega arith)
]
  where
    below : (q : ℕ) → Among q (k ∷ sent w) → q < length w.drives
    below q (inl e) = omega arith
    below q (inr h) = among_within w valid q h

-- the place in the order of a drive
pub place_of_drive : (w : WishesView) → IsValid w → (k : ℕ) → k < length w.drives → (at : ℕ) × (at < length w.order) × (k ≡ slice_index w.order at)
place_of_drive w valid k within = among_first w.order (length w.order) k (listed w valid k within)

-- an address leads to its AT
other_address : (w : WishesView) → IsValid w → (j k : ℕ) → j < length w.drives → k < length w.drives → (j ≡ k → ⊥) → (wish w j).address ≡ (wish w k).address → ⊥
other_address w valid j k in_j in_k other same = elim (cases_order j k) [
  | inl e ↦ other e
  | inr (inl less) ↦ apart_at w valid j k less in_k same
  | inr (inr more) ↦ apart_at w valid k j more in_j (sym same)
]

up_to_first : (w : WishesView) → IsValid w → (n at : ℕ) → at < n → n ≤ length w.order →
    up_to w (wish w (slice_index w.order at)).address (first_sent w.order n) ≡ slice_index w.order at ∷ first_sent w.order at
up_to_first w valid zero at below within = absurd (omega arith)
up_to_first w valid (suc n) at below within = elim (cases_eq at n) [
  | inl same ↦ rw same (cond-true _ _ _ (eq-eqb (wish w (slice_index w.order n)).address (wish w (slice_index w.order n)).address refl))
  | inr other ↦
      cond-false _ _ _ (ne_eqb (wish w (slice_index w.order n)).address (wish w (slice_index w.order at)).address
      (other_address w valid (slice_index w.order n) (slice_index w.order at) (valid.order.within n (omega arith)) (valid.order.within at (omega arith))
      (λ e. apart w valid n at (λ f. other (sym f)) (omega arith) (omega arith) e)))
      ∙ up_to_first w valid n at (omega (arith, other)) (omega arith)
]

pub up_to_at : (w : WishesView) → IsValid w → (at : ℕ) → at < length w.order →
    up_to w (wish w (slice_index w.order at)).address (sent w) ≡ slice_index w.order at ∷ first_sent w.order at
up_to_at w valid at within = up_to_first w valid (length w.order) at within (omega arith)

-- the greatest of the ring is the greatest of the order, and the first drive that has it is one of the order
some_greatest : (f : Wish → ℕ) (ds : List Wish) → 0 < length ds → (k : ℕ) × (k < length ds) × (f (slice_index_or ds k no_wish) ≡ greatest_of f ds)
some_greatest f [] some = absurd (omega arith)
some_greatest f (d ∷ []) some = (0, omega arith, omega arith)
some_greatest f (d ∷ (e ∷ ds)) some =
    let rest = some_greatest f (e ∷ ds) (omega arith) in
    let below = rest.1 in
    let value = rest.2 in
    elim (cases_order (f d) (greatest_of f (e ∷ ds))) [
      | inl same ↦ (0, omega arith, omega arith)
      | inr (inl less) ↦ (suc rest.0, omega arith, value ∙ omega arith)
      | inr (inr more) ↦ (0, omega arith, omega arith)
    ]

-- what `first_with` finds in a list
abbrev FoundFirst : (Wish → ℕ) → ℕ → List Wish → Type 0
FoundFirst f value ds = (i : ℕ) × (i < length ds) × (f (slice_index_or ds i no_wish) ≡ value) × (first_with f value ds ≡ (slice_index_or ds i no_wish).address)

found_behind : (f : Wish → ℕ) (value : ℕ) (d : Wish) (ds : List Wish) → (f d ≡ value → ⊥) → FoundFirst f value ds → FoundFirst f value (d ∷ ds)
found_behind f value d ds other rest =
    let below = rest.1 in
    (suc rest.0, omega arith, rest.2, cond-false _ _ _ (ne_eqb (f d) value other) ∙ rest.3)

first_with_at : (f : Wish → ℕ) (value : ℕ) (ds : List Wish) (k : ℕ) → k < length ds → f (slice_index_or ds k no_wish) ≡ value → FoundFirst f value ds
first_with_at f value [] k below same = absurd (omega arith)
first_with_at f value (d ∷ ds) zero below same = (0, omega arith, same, cond-true _ _ _ (eq-eqb (f d) value same))
first_with_at f value (d ∷ ds) (suc k) below same = elim (cases_eq (f d) value) [
  | inl here ↦ (0, omega arith, here, cond-true _ _ _ (eq-eqb (f d) value here))
  | inr other ↦ found_behind f value d ds other (first_with_at f value ds k (omega arith) same)
]

greatest_of_below : (f : Wish → ℕ) (ds : List Wish) (k : ℕ) → k < length ds → f (slice_index_or ds k no_wish) ≤ greatest_of f ds
greatest_of_below f [] k below = absurd (omega arith)
greatest_of_below f (d ∷ ds) zero below = omega arith
greatest_of_below f (d ∷ ds) (suc k) below = let rest = greatest_of_below f ds k (omega arith) in omega arith

pub greatest_within : (f : ℕ → ℕ) (z : ℕ) (ats : List ℕ) → ((k : ℕ) → Among k ats → f k ≤ z) → greatest f ats ≤ z
greatest_within f z [] each = omega arith
greatest_within f z (k ∷ before) each =
    let here = each k (inl refl) in let there = greatest_within f z before (λ j h. each j (inr h)) in omega arith

-- the place in the order of the first drive of the ring with the greatest time, which is the greatest along the order
pub record IsFirstGreatest (w : WishesView) (f : Wish → ℕ) (at : ℕ) : Type 0 where
  pub within : at < length w.order
  pub address : first_greatest f w.drives ≡ (wish w (slice_index w.order at)).address
  pub value : f (wish w (slice_index w.order at)) ≡ greatest (λ k. f (wish w k)) (sent w)

pub first_greatest_at : (w : WishesView) → IsValid w → (f : Wish → ℕ) → (at : ℕ) × IsFirstGreatest w f at
first_greatest_at w valid f =
    let some = some_greatest f w.drives (valid.drives.some) in
    let first = first_with_at f (greatest_of f w.drives) w.drives some.0 some.1 some.2 in
    let place = place_of_drive w valid first.0 first.1 in
    let low = greatest_within (λ k. f (wish w k)) (greatest_of f w.drives) (sent w) (λ k h. greatest_of_below f w.drives k (among_within w valid k h)) in
    let high = among_greatest (λ k. f (wish w k)) (sent w) first.0 (listed w valid first.0 first.1) in
    let equal : greatest (λ k. f (wish w k)) (sent w) ≡ greatest_of f w.drives = both _ _ _ first.2 high low in (
      place.0,
      record {
        within = place.1;
        address = first.3 ∙ ap (λ k. (wish w k).address) place.2;
        value = ap (λ k. f (wish w k)) (sym place.2) ∙ first.2 ∙ sym equal;
      },
    )
  where
    both : (x g z : ℕ) → x ≡ z → x ≤ g → g ≤ z → g ≡ z
    both x g z same low high = omega arith
