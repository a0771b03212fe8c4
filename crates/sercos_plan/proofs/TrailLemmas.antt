-- The links to T1 of an AT, from those to an earlier one.
use Rattle.std.proofs.Common.{◌≡◌, ℕ, zero, suc, ◌<◌, ◌≤◌, inl, inr, true, false, List, [], ◌∷◌, ◌++◌, length, slice_index, refl, sym, ap, ◌∙◌, arith}
use Rattle.std.specs.Prelude.{Option, Some, None, ◌==◌, IfSome}
use Rattle.std.proofs.lemmas.Bool.{cases_eq, cases_order, cond-true, cond-false, eq-eqb, ne_eqb}
use Rattle.sercos_timing.specs.Views.{WishesView}
use Rattle.sercos_timing.specs.Order.{sent, first_sent, neighbor, previous, place_at}
use Rattle.sercos_timing.specs.Inequalities.{asked_1, asked_2, asked_3, asked_5, asked_6}
use Rattle.sercos_plan.specs.LeastTimes.{least_t2}
use Rattle.sercos_plan.specs.Chains.{last_place}
use Rattle.std.specs.Option.{option_or}
use Rattle.sercos_timing.proofs.BreakLemmas.{option_or-some}
use Rattle.sercos_timing.specs.Valid.{IsValid}
use Rattle.sercos_plan.specs.ChainOf.{trail_t2, trail_by_master, is_tight, first_tight, is_tight_at, link_of, back_of, trail_at, trail, starts, bits_of_starts, trail_to, trail_to_some}
use Rattle.sercos_plan.specs.declared.chain.Link.{Link}

pub apart : (w : WishesView) → IsValid w → (i j : ℕ) → (i ≡ j → ⊥) → i < length w.order → j < length w.order → slice_index w.order i ≡ slice_index w.order j → ⊥
apart w valid i j other in_i in_j same = elim (cases_order i j) [
  | inl e ↦ other e
  | inr (inl lt) ↦ valid.order.once i j lt in_j same
  | inr (inr gt) ↦ valid.order.once j i gt in_i (sym same)
]

pub trail_here : (w : WishesView) (t : ℕ → ℕ) (k : ℕ) (before : List ℕ) → trail w t (k ∷ before) k ≡ trail_at w t k before (trail w t before)
unfolding trail
trail_here w t k before = cond-true (k == k) _ _ (eq-eqb k k refl)

pub trail_there : (w : WishesView) (t : ℕ → ℕ) (k j : ℕ) (before : List ℕ) → (j ≡ k → ⊥) → trail w t (k ∷ before) j ≡ trail w t before j
unfolding trail
trail_there w t k j before other = cond-false (j == k) _ _ (ne_eqb j k other)

-- the links stay as the order goes on
pub trail_stays : (w : WishesView) → IsValid w → (t : ℕ → ℕ) (n i : ℕ) → i < n → n ≤ length w.order →
    trail w t (first_sent w.order n) (slice_index w.order i) ≡ trail w t (first_sent w.order (suc i)) (slice_index w.order i)
trail_stays w valid t zero i below within = absurd (omega arith)
trail_stays w valid t (suc n) i below within = elim (cases_eq i n) [
  | inl same ↦ rw same refl
  | inr other ↦
      trail_there w t (slice_index w.order n) (slice_index w.order i) (first_sent w.order n) (apart w valid i n other (omega arith) (omega arith))
      ∙ trail_stays w valid t n i (omega (arith, other)) (omega arith)
]

back_is : (w : WishesView) → IsValid w → (i : ℕ) → i < length w.order → (o : Option ℕ) → IfSome o (λ j. j < i) →
    back_of (trail w (starts w) (first_sent w.order i)) (place_at w o) ≡ trail_to_some w o
back_is w valid i within None below = refl
back_is w valid i within (Some j) below = trail_stays w valid (starts w) i j below (omega arith)

pub step_own : (w : WishesView) (i : ℕ) → is_tight_at w (asked_1 w) i ≡ true → trail_to w i ≡ link_of w 1 (slice_index w.order i) (starts w (slice_index w.order i)) ∷ []
unfolding trail_at
step_own w i one = trail_here w (starts w) (slice_index w.order i) (first_sent w.order i) ∙ cond-true _ _ _ one

pub step_gap : (w : WishesView) (i : ℕ) → is_tight_at w (asked_1 w) i ≡ false → is_tight_at w (asked_2 w) i ≡ true → trail_to w i ≡ link_of w 2 (slice_index w.order i) (starts w (slice_index w.order i)) ∷ []
unfolding trail_at
step_gap w i one two = trail_here w (starts w) (slice_index w.order i) (first_sent w.order i) ∙ cond-false _ _ _ one ∙ cond-true _ _ _ two

pub step_neighbor : (w : WishesView) → IsValid w → (i : ℕ) → i < length w.order → (o : Option ℕ) → IfSome o (λ j. j < i) → place_at w o ≡ neighbor w (slice_index w.order i) (first_sent w.order i) →
    is_tight_at w (asked_1 w) i ≡ false → is_tight_at w (asked_2 w) i ≡ false → is_tight_at w (asked_3 w) i ≡ true →
    trail_to w i ≡ trail_to_some w o ++ link_of w 3 (slice_index w.order i) (starts w (slice_index w.order i)) ∷ []
unfolding trail_at
step_neighbor w valid i within o below is one two three =
    trail_here w (starts w) (slice_index w.order i) (first_sent w.order i) ∙ cond-false _ _ _ one ∙ cond-false _ _ _ two ∙ cond-true _ _ _ three
    ∙ ap (λ ls. ls ++ link_of w 3 (slice_index w.order i) (starts w (slice_index w.order i)) ∷ []) (ap (back_of (trail w (starts w) (first_sent w.order i))) (sym is) ∙ back_is w valid i within o below)

pub step_slave : (w : WishesView) → IsValid w → (i : ℕ) → i < length w.order → (o : Option ℕ) → IfSome o (λ j. j < i) → place_at w o ≡ previous w (slice_index w.order i) (first_sent w.order i) →
    is_tight_at w (asked_1 w) i ≡ false → is_tight_at w (asked_2 w) i ≡ false → is_tight_at w (asked_3 w) i ≡ false →
    trail_to w i ≡ trail_to_some w o ++ link_of w 4 (slice_index w.order i) (starts w (slice_index w.order i)) ∷ []
unfolding trail_at
step_slave w valid i within o below is one two three =
    trail_here w (starts w) (slice_index w.order i) (first_sent w.order i) ∙ cond-false _ _ _ one ∙ cond-false _ _ _ two ∙ cond-false _ _ _ three
    ∙ ap (λ ls. ls ++ link_of w 4 (slice_index w.order i) (starts w (slice_index w.order i)) ∷ []) (ap (back_of (trail w (starts w) (first_sent w.order i))) (sym is) ∙ back_is w valid i within o below)

-- the first tight AT stays the first in the whole order
tight_stays : (w : WishesView) (b : ℕ → ℕ) (t2 m n x : ℕ) → first_tight w b t2 (first_sent w.order m) ≡ Some x → m ≤ n → first_tight w b t2 (first_sent w.order n) ≡ Some x
tight_stays w b t2 m zero x h below = let e : m ≡ 0 = omega arith in rw e at h
tight_stays w b t2 m (suc n) x h below = elim (cases_eq m (suc n)) [
  | inl same ↦ rw same at h
  | inr other ↦ option_or-some (first_tight w b t2 (first_sent w.order n)) _ x (tight_stays w b t2 m n x h (omega (arith, other)))
]

pub tight_at : (w : WishesView) (b : ℕ → ℕ) (t2 i n : ℕ) → first_tight w b t2 (first_sent w.order i) ≡ None →
    is_tight w (asked_6 w b (slice_index w.order i) (first_sent w.order i)) t2 ≡ true → i < n → first_tight w b t2 (first_sent w.order n) ≡ Some (slice_index w.order i)
tight_at w b t2 i n none tight below = tight_stays w b t2 (suc i) n (slice_index w.order i) (rw (none, tight) refl) (omega arith)

-- the links to T2
pub t2_last : (w : WishesView) (t2 : ℕ) → t2 ≡ least_t2 w → is_tight w (asked_5 w (bits_of_starts w) (sent w)) t2 ≡ true →
    trail w (starts w) (sent w) (last_place w) ++ link_of w 5 (last_place w) t2 ∷ [] ≡ trail_t2 w
unfolding trail_t2
t2_last w t2 same tight =
    let here : is_tight w (asked_5 w (bits_of_starts w) (sent w)) (least_t2 w) ≡ true = rw (← same) tight in
    ap (λ t. trail w (starts w) (sent w) (last_place w) ++ link_of w 5 (last_place w) t ∷ []) same ∙ sym (cond-true _ _ _ here)

pub t2_master : (w : WishesView) (t2 : ℕ) (o : Option ℕ) (links : List Link) → t2 ≡ least_t2 w → is_tight w (asked_5 w (bits_of_starts w) (sent w)) t2 ≡ false →
    o ≡ first_tight w (bits_of_starts w) t2 (sent w) → links ≡ trail_by_master w o → links ≡ trail_t2 w
unfolding trail_t2
t2_master w t2 o links same loose is built =
    let here : is_tight w (asked_5 w (bits_of_starts w) (sent w)) (least_t2 w) ≡ false = rw (← same) loose in
    built ∙ ap (trail_by_master w) (is ∙ ap (λ t. first_tight w (bits_of_starts w) t (sent w)) same) ∙ sym (cond-false _ _ _ here)
