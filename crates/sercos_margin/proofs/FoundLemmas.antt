-- The bounds found one by one are the bounds.
use Rattle.std.proofs.Common.{◌≡◌, ◌⊎◌, inl, inr, ℕ, zero, suc, ◌+◌, ◌-◌, ◌*◌, ◌/◌, ◌<◌, ◌≤◌, Bool, true, false, ◌∷◌, map, refl, sym, ap, ◌∙◌, arith, if◌then◌else◌}
use Rattle.std.specs.Prelude.{Option, Some, None}
use Rattle.std.specs.List.{find, range_with_len}
use Rattle.std.proofs.lemmas.Bool.{cases_eq, cases_lt, cond-true, cond-false}
use Rattle.sercos_timing.specs.Views.{WishesView}
use Rattle.sercos_timing.specs.Valid.{IsCycle, IsValid}
use Rattle.sercos_plan.specs.Least.{NoneFits}
use Rattle.sercos_plan.specs.LeastTimes.{is_roomy, least_plan}
use Rattle.sercos_plan.proofs.PlanLemmas.{is_least, none_fits, roomy}
use Rattle.sercos_plan.proofs.AnswerLemmas.{roomy_test, test_roomy, is_of_least}
use Rattle.sercos_margin.specs.Margins.{greatest, declared, with_time, with_cycle, HasPlan, IsMargin, IsLeastOf, IsLeastCycle, highest, margin_of, all_cycles, least_cycle_of}
use Rattle.sercos_margin.specs.declared.changes.Time.{Time}
use Rattle.sercos_margin.proofs.EasierLemmas.{less_time, declared_plan, valid_time, valid_cycle}

-- the test of the least times decides whether a plan fits
plan_by : (w : WishesView) → IsValid w → is_roomy w ≡ true → HasPlan w
plan_by w valid e = (least_plan w, (is_least w (least_plan w) valid (is_of_least w) (roomy_test w e)).fits)

none_by : (w : WishesView) → IsValid w → is_roomy w ≡ false → NoneFits w
none_by w valid e = none_fits w valid (λ room. let bad : true ≡ false = sym (test_roomy w room) ∙ e in cc)

roomy_by : (w : WishesView) → IsValid w → HasPlan w → is_roomy w ≡ true
roomy_by w valid h = test_roomy w (roomy w valid h.0 h.1)

crowded_by : (w : WishesView) → IsValid w → NoneFits w → is_roomy w ≡ false
crowded_by w valid none = by (is_roomy w) refl
  where
    by : (b : Bool) → is_roomy w ≡ b → is_roomy w ≡ false
    by true e = let h = plan_by w valid e in absurd (none h.0 h.1)
    by false e = e

-- the greatest that passes, among so many above the least
record IsHighest (f : ℕ → Bool) (low n v : ℕ) : Type 0 where
  above : low ≤ v
  below : v ≤ low + n
  passes : (v ≡ low) ⊎ (f v ≡ true)
  fails : (u : ℕ) → v < u → u ≤ low + n → f u ≡ false

one_higher : (f : ℕ → Bool) (low n v : ℕ) (b : Bool) → f (low + suc n) ≡ b → IsHighest f low n v → IsHighest f low (suc n) (if b then low + suc n else v)
one_higher f low n v true e before = record { above = omega arith; below = omega arith; passes = inr e; fails = λ u more most. absurd (omega arith) }
one_higher f low n v false e before = record {
  above = before.above;
  below = omega (arith, before.below);
  passes = before.passes;
  fails = λ u more most. last u more (split u most);
}
  where
    last : (u : ℕ) → v < u → (u ≡ low + suc n) ⊎ (u ≤ low + n) → f u ≡ false
    last u more (inl same) = ap f same ∙ e
    last u more (inr less) = before.fails u more less

    split : (u : ℕ) → u ≤ low + suc n → (u ≡ low + suc n) ⊎ (u ≤ low + n)
    split u most = elim (cases_eq u (low + suc n)) [ inl same ↦ inl same | inr other ↦ inr (omega (arith, other, most)) ]

is_highest : (f : ℕ → Bool) (low n : ℕ) → IsHighest f low n (highest f low n)
unfolding highest
is_highest f low zero = record { above = omega arith; below = omega arith; passes = inl refl; fails = λ u more most. absurd (omega arith) }
is_highest f low (suc n) = one_higher f low n (highest f low n) (f (low + suc n)) refl (is_highest f low n)

-- what is found is how far the time can go
pub margin_found : (w : WishesView) (k : ℕ) (t : Time) → IsValid w → declared w k t ≤ greatest t → HasPlan w → IsMargin w k t (margin_of w k t)
unfolding margin_of
margin_found w k t valid within h =
    record {
      least = top.above;
      most = under (declared w k t) (greatest t) _ within top.below;
      fits = λ v above below. (fits.0, less_time w fits.0 k t v _ below fits.1);
      none = λ v above most. none_by (with_time w k t v) (valid_time w k t v valid) (top.fails v above (over (declared w k t) (greatest t) v within most));
    }
  where
    n : ℕ
    n = highest (λ v. is_roomy (with_time w k t v)) (declared w k t) (greatest t - declared w k t)

    top : IsHighest (λ v. is_roomy (with_time w k t v)) (declared w k t) (greatest t - declared w k t) n
    top = is_highest (λ v. is_roomy (with_time w k t v)) (declared w k t) (greatest t - declared w k t)

    by : (n ≡ declared w k t) ⊎ (is_roomy (with_time w k t n) ≡ true) → HasPlan (with_time w k t n)
    by (inl same) = declared_plan w k t n same h
    by (inr e) = plan_by (with_time w k t n) (valid_time w k t n valid) e

    fits : HasPlan (with_time w k t n)
    fits = by top.passes

    under : (low high v : ℕ) → low ≤ high → v ≤ low + (high - low) → v ≤ high
    under low high v a b = omega arith

    over : (low high v : ℕ) → low ≤ high → v ≤ high → v ≤ low + (high - low)
    over low high v a b = omega arith

-- and there is one such value
one_margin : (w : WishesView) (k : ℕ) (t : Time) (n m : ℕ) → IsMargin w k t n → IsMargin w k t m → n ≤ m
one_margin w k t n m a b = elim (cases_lt m n) [
  | inl more ↦ let fits = a.fits n a.least (omega arith) in absurd (b.none n more a.most fits.0 fits.1)
  | inr less ↦ less
]

pub margin_is : (w : WishesView) (k : ℕ) (t : Time) (n : ℕ) → IsValid w → declared w k t ≤ greatest t → HasPlan w → IsMargin w k t n → n ≡ margin_of w k t
margin_is w k t n valid within h is =
    let found = margin_found w k t valid within h in
    let up = one_margin w k t n _ is found in
    let down = one_margin w k t _ n found is in omega (arith, up, down)

-- the first multiple of 250 that passes
no_multiple : (p : ℕ → Bool) (a n : ℕ) → ((m : ℕ) → a ≤ m → m < a + n → p (250 * m) ≡ false) → find p (map (λ m. 250 * m) (range_with_len a n)) ≡ None
no_multiple p a zero fails = refl
no_multiple p a (suc n) fails =
    cond-false (p (250 * a)) _ _ (fails a (omega arith) (omega arith)) ∙ no_multiple p (a + 1) n (λ m above below. fails m (omega (arith, above)) (omega (arith, below)))

first_multiple : (p : ℕ → Bool) (a n m : ℕ) → a ≤ m → m < a + n → p (250 * m) ≡ true → ((i : ℕ) → a ≤ i → i < m → p (250 * i) ≡ false) → find p (map (λ m. 250 * m) (range_with_len a n)) ≡ Some (250 * m)
first_multiple p a zero m above below e fails = absurd (omega arith)
first_multiple p a (suc n) m above below e fails = elim (cases_eq a m) [
  | inl same ↦ cond-true (p (250 * a)) _ _ (ap (λ i. p (250 * i)) same ∙ e) ∙ ap (λ i. Some (250 * i)) same
  | inr other ↦
      cond-false (p (250 * a)) _ _ (fails a (omega arith) (omega (arith, other, above)))
      ∙ first_multiple p (a + 1) n m (omega (arith, other, above)) (omega (arith, below)) e (λ i more less. fails i (omega (arith, more)) less)
]

multiple_cycle : (m : ℕ) → 1 ≤ m → m < 1 + 256 → IsCycle (250 * m)
multiple_cycle m some few = inr (omega arith, omega arith, omega arith)

found_none : (w : WishesView) → IsValid w → ((c : ℕ) → IsCycle c → NoneFits (with_cycle w c)) → None ≡ least_cycle_of w
unfolding least_cycle_of all_cycles
found_none w valid none =
    sym (cond-false (is_roomy (with_cycle w 125)) _ _ (fails 125 (inl refl))
    ∙ no_multiple (λ c. is_roomy (with_cycle w c)) 1 256 (λ m some few. fails (250 * m) (multiple_cycle m some few)))
  where
    fails : (c : ℕ) → IsCycle c → is_roomy (with_cycle w c) ≡ false
    fails c is = crowded_by (with_cycle w c) (valid_cycle w c is valid) (none c is)

found_some : (w : WishesView) (n : ℕ) → IsValid w → IsLeastOf w n → Some n ≡ least_cycle_of w
unfolding least_cycle_of all_cycles
found_some w n valid least = by least.cycle
  where
    passes : is_roomy (with_cycle w n) ≡ true
    passes = roomy_by (with_cycle w n) (valid_cycle w n least.cycle valid) (least.fits n least.cycle (omega arith))

    fails : (c : ℕ) → IsCycle c → c < n → is_roomy (with_cycle w c) ≡ false
    fails c is below = crowded_by (with_cycle w c) (valid_cycle w c is valid) (least.none c is below)

    multiple : (i : ℕ) → n ≡ 250 * i → 1 ≤ i → i < 1 + 256 → Some n ≡ find (λ c. is_roomy (with_cycle w c)) (125 ∷ map (λ m. 250 * m) (range_with_len 1 256))
    multiple i is some few =
        sym (cond-false (is_roomy (with_cycle w 125)) _ _ (fails 125 (inl refl) (omega arith))
        ∙ first_multiple (λ c. is_roomy (with_cycle w c)) 1 256 i some few (ap (λ c. is_roomy (with_cycle w c)) (sym is) ∙ passes)
        (λ j one below. fails (250 * j) (multiple_cycle j one (omega (arith, below, few))) (omega (arith, below, is)))
        ∙ ap Some (sym is))

    by : IsCycle n → Some n ≡ find (λ c. is_roomy (with_cycle w c)) (125 ∷ map (λ m. 250 * m) (range_with_len 1 256))
    by (inl short) = sym (cond-true (is_roomy (with_cycle w 125)) _ _ (ap (λ c. is_roomy (with_cycle w c)) (sym short) ∙ passes) ∙ ap Some (sym short))
    by (inr long) = let (some, few, whole) = long in multiple (n / 250) (omega arith) (omega arith) (omega arith)

pub cycle_is : (w : WishesView) (o : Option ℕ) → IsValid w → IsLeastCycle w o → o ≡ least_cycle_of w
cycle_is w None valid none = found_none w valid none
cycle_is w (Some n) valid least = found_some w n valid least
