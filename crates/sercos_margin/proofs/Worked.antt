-- The limits of a drive's times, and how far those of a ring of one drive can go, worked out by hand.
use Rattle.std.proofs.Common.{◌≡◌, ℕ, zero, suc, ◌+◌, ◌<◌, ◌≤◌, inl, inr, true, false, [], ◌∷◌, map, slice_index, refl, arith}
use Rattle.sercos_timing.specs.Views.{WishesView}
use Rattle.sercos_timing.specs.Order.{wish}
use Rattle.sercos_timing.specs.Valid.{IsWish, IsValid}
use Rattle.sercos_timing.specs.Examples.{small_ring, small_drive, two_drives}
use Rattle.sercos_plan.specs.Least.{NoneFits}
use Rattle.sercos_plan.specs.LeastTimes.{least_t2, least_t3, is_roomy, least_plan}
use Rattle.sercos_plan.proofs.PlanLemmas.{is_least}
use Rattle.sercos_plan.proofs.AnswerLemmas.{roomy_test, is_of_least, full_none}
use Rattle.sercos_margin.specs.Margins.{greatest, declared, with_time, with_cycle, HasPlan, IsMargin, IsLeastOf}
use Rattle.sercos_margin.specs.declared.changes.Time.{Time}
use Rattle.sercos_margin.specs.declared.changes.Time.TheVariants.{T1min, Tatmt, T4min, Tatat, Tmtsy, Tmtsg}
use Rattle.sercos_margin.proofs.EasierLemmas.{less_time, valid_time, valid_cycle, some_plan}
use Rattle.sercos_margin.proofs.MarginLemmas.{shortest_cycle}

-- the greatest value of each time that a drive may declare, in microseconds
six_greatest : map greatest (T1min ∷ Tatmt ∷ T4min ∷ Tatat ∷ Tmtsy ∷ Tmtsg ∷ []) ≡ 300 ∷ 300 ∷ 64000 ∷ 64000 ∷ 250 ∷ 64000 ∷ []
six_greatest = refl

-- the drive declares 10, 6, 20, 5, 10 and 20 microseconds, in a cycle of 250
abbrev one_drive : WishesView
one_drive = small_ring 250 (0 ∷ []) (small_drive 1 1 10 5 10 ∷ [])

one_valid : IsValid one_drive
one_valid = record {
  drives = record {
    some = omega arith;
    few = omega arith;
    wishes = is_wish;
    apart = λ i j before within. absurd (alone i j before within);
    mdt_len = omega arith;
  };
  order = record { count = refl; within = first; once = λ i j before within. absurd (alone i j before within) };
  cycles = record { rate = inr (inl refl); cycle = inr (omega arith, omega arith, refl); control = (omega arith, refl); gap = omega arith };
}
  where
    alone : (i j : ℕ) → i < j → j < 1 → ⊥
    alone i j h g = omega arith

    is_wish : (k : ℕ) → k < 1 → IsWish (wish one_drive k)
    is_wish zero h = record { address = (omega arith, omega arith); at_len = (omega arith, omega arith); record_len = (omega arith, omega arith) }
    is_wish (suc k) h = absurd (alone 0 (suc k) (omega arith) h)

    first : (i : ℕ) → i < 1 → slice_index (0 ∷ []) i < 1
    first zero h = omega arith
    first (suc i) h = absurd (alone 0 (suc i) (omega arith) h)

roomy_plan : (w : WishesView) → IsValid w → is_roomy w ≡ true → HasPlan w
roomy_plan w valid room = some_plan w (least_plan w) (is_least w (least_plan w) valid (is_of_least w) (roomy_test w room))

margin_is : (w : WishesView) (k : ℕ) (t : Time) (n : ℕ) → IsValid w → declared w k t ≤ n → n ≤ greatest t → is_roomy (with_time w k t n) ≡ true →
    is_roomy (with_time w k t (n + 1)) ≡ false → IsMargin w k t n
margin_is w k t n valid above within room full =
    let here : HasPlan (with_time w k t n) = roomy_plan (with_time w k t n) (valid_time w k t n valid) room in
    let past : NoneFits (with_time w k t (n + 1)) = full_none (with_time w k t (n + 1)) (valid_time w k t (n + 1) valid) full in
    record {
      least = above;
      most = within;
      fits = λ v low high. (here.0, less_time w here.0 k t v n high here.1);
      none = λ v beyond most p f. past p (less_time w p k t (n + 1) v (next n v beyond) f);
    }
  where
    next : (n v : ℕ) → n < v → n + 1 ≤ v
    next n v h = omega arith

one_t1min : IsMargin one_drive 0 T1min 159
unfolding least_t2 least_t3
one_t1min = margin_is one_drive 0 T1min 159 one_valid (omega arith) (omega arith) refl refl

one_tatmt : IsMargin one_drive 0 Tatmt 155
unfolding least_t2 least_t3
one_tatmt = margin_is one_drive 0 Tatmt 155 one_valid (omega arith) (omega arith) refl refl

one_t4min : IsMargin one_drive 0 T4min 250
unfolding least_t2 least_t3
one_t4min = margin_is one_drive 0 T4min 250 one_valid (omega arith) (omega arith) refl refl

one_tmtsy : IsMargin one_drive 0 Tmtsy 159
unfolding least_t2 least_t3
one_tmtsy = margin_is one_drive 0 Tmtsy 159 one_valid (omega arith) (omega arith) refl refl

one_tmtsg : IsMargin one_drive 0 Tmtsg 172
unfolding least_t2 least_t3
one_tmtsg = margin_is one_drive 0 Tmtsg 172 one_valid (omega arith) (omega arith) refl refl

-- no AT goes before that of the drive, so its TATAT may be as long as can be declared
one_tatat : IsMargin one_drive 0 Tatat 64000
unfolding least_t2 least_t3
one_tatat =
    let here : HasPlan (with_time one_drive 0 Tatat 64000) = roomy_plan (with_time one_drive 0 Tatat 64000) (valid_time one_drive 0 Tatat 64000 one_valid) refl in
    record {
      least = omega arith;
      most = omega arith;
      fits = λ v low high. (here.0, less_time one_drive here.0 0 Tatat v 64000 high here.1);
      none = λ v beyond most. absurd (past v beyond most);
    }
  where
    past : (v : ℕ) → 64000 < v → v ≤ 64000 → ⊥
    past v h g = omega arith

one_cycle : IsLeastOf one_drive 125
unfolding least_t2 least_t3
one_cycle = shortest_cycle one_drive (roomy_plan (with_cycle one_drive 125) (valid_cycle one_drive 125 (inl refl) one_valid) refl)

-- two drives don't find room in 125 microseconds, and do in 250
two_short : is_roomy (with_cycle (two_drives 250 10) 125) ≡ false
unfolding least_t2 least_t3
two_short = refl

two_long : is_roomy (with_cycle (two_drives 250 10) 250) ≡ true
unfolding least_t2 least_t3
two_long = refl
