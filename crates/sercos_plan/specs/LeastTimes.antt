-- The least times that the inequalities 1 to 7 allow, found by going through the order once. It is
-- proved that no plan has lesser times, and that the plan of these times fits if any plan does.
use Rattle.std.specs.Prelude.{ℕ, ◌+◌, ◌-◌, ◌*◌, ◌/◌, max, Bool, List, [], ◌∷◌, length, map, unwrap_or, nat_le, ◌==◌, ◌&&◌, if◌then◌else◌}
use Rattle.std.specs.List.{range_with_len}
use Rattle.sercos_timing.specs.Views.{WishesView, PlanView}
use Rattle.sercos_timing.specs.Order.{times, sent, record_bytes}
use Rattle.sercos_timing.specs.Inequalities.{asked_1, asked_2, asked_3, asked_4, asked_5, asked_6, asked_7, greatest, greatest_tmtsy, sum_9, bound_9, positions}

-- the least number of microseconds with at least n bit times
abbrev pub round_up : ℕ → ℕ → ℕ
round_up rate bits = (bits + (rate - 1)) / rate

-- the bit time that 1 to 4 together require of the start of the AT of the drive k
abbrev pub needed : WishesView → (ℕ → ℕ) → ℕ → List ℕ → ℕ
needed w b k before =
    max (unwrap_or (asked_1 w b k before) 0) (max (unwrap_or (asked_2 w b k before) 0)
    (max (unwrap_or (asked_3 w b k before) 0) (unwrap_or (asked_4 w b k before) 0)))

-- T1 of the drive j, in microseconds, if these ATs are sent; 0 if its AT is not among them
abbrev pub least_t1 : WishesView → List ℕ → ℕ → ℕ
least_t1 w [] j = 0
least_t1 w (k ∷ before) j =
    if j == k then round_up w.rate (needed w (λ i. w.rate * least_t1 w before i) k before) else least_t1 w before j

-- the same in bit times
abbrev pub least_bits : WishesView → List ℕ → ℕ → ℕ
least_bits w ats j = w.rate * least_t1 w ats j

-- the least T2, which 5 and 6 bound, in microseconds
unfoldable pub least_t2 : WishesView → ℕ
least_t2 w =
    round_up w.rate (max (unwrap_or (asked_5 w (least_bits w (sent w)) (sent w)) 0)
    (greatest (λ k. unwrap_or (asked_6 w (least_bits w (sent w)) k []) 0) (sent w)))

-- the least T3, which 7 bounds, in microseconds
unfoldable pub least_t3 : WishesView → ℕ
least_t3 w = round_up w.rate (greatest (λ k. unwrap_or (asked_7 w (w.rate * least_t2 w) k []) 0) (sent w))

-- the greatest T4min of the drives, in microseconds
abbrev pub greatest_t4min : WishesView → ℕ
greatest_t4min w = greatest (λ k. (times w k).t4min) (sent w)

-- the least times keep the bounds 8, 9 and 10
abbrev pub is_roomy : WishesView → Bool
is_roomy w =
    nat_le (sum_9 w (w.rate * least_t2 w) (greatest_tmtsy w)) (bound_9 w)
    && nat_le (least_t3 w) w.cycle && nat_le (greatest_t4min w) w.cycle

-- the plan of the least times; its T4 is the greatest
unfoldable pub least_plan : WishesView → PlanView
least_plan w = record {
  t1 = map (least_t1 w (sent w)) (range_with_len 0 (length w.drives));
  t2 = least_t2 w;
  t3 = least_t3 w;
  t4 = w.cycle - greatest_t4min w;
  position = positions 1 w.drives;
  mdt_len = record_bytes w.drives;
}
