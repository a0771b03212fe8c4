-- The last AT of the order.
use Rattle.std.proofs.Common.{◌≡◌, ℕ, zero, suc, ◌+◌, ◌-◌, ◌*◌, ◌<◌, List, length, refl, ap, ◌∙◌, add-one, max, arith, slice_index}
use Rattle.std.specs.Prelude.{Some, unwrap_or}
use Rattle.sercos_timing.specs.Views.{WishesView}
use Rattle.sercos_timing.specs.Order.{first_sent, sent, at_bits, mdt_bits, times}
use Rattle.sercos_timing.specs.Inequalities.{asked_5, greatest}
use Rattle.sercos_plan.specs.LeastTimes.{round_up, least_t1, least_bits, least_t2, least_t3}

pub five_at : (w : WishesView) (b : ℕ → ℕ) (order : List ℕ) (n : ℕ) → 0 < n →
    unwrap_or (asked_5 w b (first_sent order n)) 0 ≡ b (slice_index order (n - 1)) + (at_bits w (slice_index order (n - 1)) + w.rate * w.gap)
five_at w b order zero some = absurd (omega arith)
five_at w b order (suc n) some = let e : suc n - 1 ≡ n = omega arith in rw e refl

pub five_same : (w : WishesView) (b c : ℕ → ℕ) (order : List ℕ) (n : ℕ) → ((j : ℕ) → b j ≡ c j) → unwrap_or (asked_5 w b (first_sent order n)) 0 ≡ unwrap_or (asked_5 w c (first_sent order n)) 0
five_same w b c order zero same = refl
five_same w b c order (suc n) same = ap (λ x. x + (at_bits w (slice_index order n) + w.rate * w.gap)) (same (slice_index order n))

-- the greatest of one more AT
pub greatest_more : (f : ℕ → ℕ) (order : List ℕ) (i most v new : ℕ) → most ≡ greatest f (first_sent order i) → v ≡ f (slice_index order i) → new ≡ max most v → new ≡ greatest f (first_sent order (i + 1))
greatest_more f order i most v new so_far is e = rw add-one (omega arith)

-- where one AT and its TATMT end
pub after_is : (w : WishesView) (t1 : List ℕ) (k p tatmt v : ℕ) → p ≡ k → slice_index t1 k ≡ least_t1 w (sent w) k → tatmt ≡ (times w k).tatmt →
    v ≡ w.rate * slice_index t1 p + (at_bits w p + w.rate * tatmt) → v ≡ least_bits w (sent w) k + (at_bits w k + w.rate * (times w k).tatmt)
after_is w t1 k p tatmt v same start time value =
    value ∙ ap (λ i. w.rate * slice_index t1 i + (at_bits w i + w.rate * tatmt)) same
    ∙ ap (λ x. w.rate * x + (at_bits w k + w.rate * tatmt)) start ∙ ap (λ x. w.rate * least_t1 w (sent w) k + (at_bits w k + w.rate * x)) time

pub t2_is : (w : WishesView) (t1 : List ℕ) (i gap most end result : ℕ) → ((j : ℕ) → slice_index t1 j ≡ least_t1 w (sent w) j) → i ≡ length w.order →
    gap ≡ unwrap_or (asked_5 w (λ j. w.rate * slice_index t1 j) (sent w)) 0 →
    most ≡ greatest (λ k. least_bits w (sent w) k + (at_bits w k + w.rate * (times w k).tatmt)) (first_sent w.order i) →
    end ≡ max gap most → result ≡ round_up w.rate end → result ≡ least_t2 w
unfolding least_t2
t2_is w t1 i gap most end result starts all is_gap is_most is_end is =
    let last = five_same w (λ j. w.rate * slice_index t1 j) (least_bits w (sent w)) w.order (length w.order) (λ j. ap (λ x. w.rate * x) (starts j)) in
    is ∙ ap (round_up w.rate) (is_end ∙ ap (λ x. max x most) (is_gap ∙ last) ∙ ap (max (unwrap_or (asked_5 w (least_bits w (sent w)) (sent w)) 0)) (is_most ∙ ap (λ n. greatest (λ k. least_bits w (sent w) k + (at_bits w k + w.rate * (times w k).tatmt)) (first_sent w.order n)) all))

pub t3_is : (w : WishesView) (t2 i most result : ℕ) → t2 ≡ least_t2 w → i ≡ length w.order →
    most ≡ greatest (λ k. w.rate * t2 + (mdt_bits w + w.rate * (times w k).tmtsg)) (first_sent w.order i) → result ≡ round_up w.rate most → result ≡ least_t3 w
unfolding least_t3
t3_is w t2 i most result is_t2 all is_most is =
    is ∙ ap (round_up w.rate) (is_most ∙ ap (λ n. greatest (λ k. w.rate * t2 + (mdt_bits w + w.rate * (times w k).tmtsg)) (first_sent w.order n)) all
    ∙ ap (λ x. greatest (λ k. w.rate * x + (mdt_bits w + w.rate * (times w k).tmtsg)) (sent w)) is_t2)

pub five_some : (w : WishesView) (b : ℕ → ℕ) (order : List ℕ) (n : ℕ) → 0 < n →
    asked_5 w b (first_sent order n) ≡ Some (b (slice_index order (n - 1)) + (at_bits w (slice_index order (n - 1)) + w.rate * w.gap))
five_some w b order zero some = absurd (omega arith)
five_some w b order (suc n) some = let e : suc n - 1 ≡ n = omega arith in rw e refl
