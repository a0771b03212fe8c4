-- The chain of the least times, if they break a bound.
use Rattle.std.specs.Prelude.{◌≡◌, ◌≤◌, ℕ, suc, ◌*◌, max, Bool, false, List, [], ◌∷◌, ◌++◌, length, Option, Some, None, Result, Ok, Err, slice_index, nat_le, ◌==◌, if◌then◌else◌}
use Rattle.std.specs.Option.{option_or}
use Rattle.sercos_timing.specs.Views.{WishesView, PlanView}
use Rattle.sercos_timing.specs.Order.{wish, sent, first_sent, neighbor, previous}
use Rattle.sercos_timing.specs.declared.inequality.Inequality.TheVariants.{Own, Gap, Neighbor, Slave, Last, Master, Records, Cycle, NextMst, Capture}
use Rattle.sercos_timing.specs.Inequalities.{number_of, asked_1, asked_2, asked_3, asked_5, asked_6, sum_9, bound_9, greatest_tmtsy}
use Rattle.sercos_timing.specs.declared.wishes.Wish.{Wish}
use Rattle.sercos_plan.specs.LeastTimes.{round_up, least_t1, least_t2, least_t3, greatest_t4min, is_roomy, least_plan}
use Rattle.sercos_plan.specs.Views.{ChainView}
use Rattle.sercos_plan.specs.Chains.{last_place}
use Rattle.sercos_plan.specs.declared.chain.Link.{Link}
use Rattle.sercos_plan.specs.declared.chaining.Time.{Time}
use Rattle.sercos_plan.specs.declared.chaining.Time.TheVariants.{Tmtsy, Tmtsg, T4min}

-- the requirement, rounded up to a microsecond, is the time t, so the time can't be less
abbrev pub is_tight : WishesView → Option ℕ → ℕ → Bool
is_tight w None t = false
is_tight w (Some asked) t = round_up w.rate asked == t

-- the link by an inequality to the time t, for the drive k
abbrev pub link_of : WishesView → ℕ → ℕ → ℕ → Link
link_of w rule k t = record { rule = rule; drive = (wish w k).address; at = w.rate * t }

-- the links to T1 of a drive, if there is one
abbrev pub back_of : (ℕ → List Link) → Option ℕ → List Link
back_of back None = []
back_of back (Some j) = back j

-- The links to T1 of the drive k, if each drive j has the T1 `t j`: the tight inequality of the
-- least number, after the links to the earlier time in it. One of 1 to 4 is tight at the least
-- times.
unfoldable pub trail_at : WishesView → (ℕ → ℕ) → ℕ → List ℕ → (ℕ → List Link) → List Link
trail_at w t k before back =
    let b : ℕ → ℕ = λ j. w.rate * t j in
    if is_tight w (asked_1 w b k before) (t k) then link_of w (number_of Own) k (t k) ∷ []
    else (if is_tight w (asked_2 w b k before) (t k) then link_of w (number_of Gap) k (t k) ∷ []
    else (if is_tight w (asked_3 w b k before) (t k) then back_of back (neighbor w k before) ++ link_of w (number_of Neighbor) k (t k) ∷ []
    else back_of back (previous w k before) ++ link_of w (number_of Slave) k (t k) ∷ []))

-- the links to T1 of the drive j, by the order of the ATs
unfoldable pub trail : WishesView → (ℕ → ℕ) → List ℕ → ℕ → List Link
trail w t [] j = []
trail w t (k ∷ before) j = if j == k then trail_at w t k before (trail w t before) else trail w t before j

-- the first AT of the order whose inequality 6 is tight
abbrev pub first_tight : WishesView → (ℕ → ℕ) → ℕ → List ℕ → Option ℕ
first_tight w b t2 [] = None
first_tight w b t2 (k ∷ before) = option_or (first_tight w b t2 before) (if is_tight w (asked_6 w b k before) t2 then Some k else None)

-- the least T1 of a drive, in microseconds
abbrev pub starts : WishesView → ℕ → ℕ
starts w = least_t1 w (sent w)

-- the least T1 of a drive, in bit times
abbrev pub bits_of_starts : WishesView → ℕ → ℕ
bits_of_starts w j = w.rate * starts w j

abbrev pub trail_by_master : WishesView → Option ℕ → List Link
trail_by_master w None = []
trail_by_master w (Some k) = trail w (starts w) (sent w) k ++ link_of w (number_of Master) k (least_t2 w) ∷ []

-- the links to T2, and to T3
unfoldable pub trail_t2 : WishesView → List Link
trail_t2 w =
    if is_tight w (asked_5 w (bits_of_starts w) (sent w)) (least_t2 w)
    then trail w (starts w) (sent w) (last_place w) ++ link_of w (number_of Last) (last_place w) (least_t2 w) ∷ []
    else trail_by_master w (first_tight w (bits_of_starts w) (least_t2 w) (sent w))

-- the greatest time of these drives; 0 if there are none
abbrev pub greatest_of : (Wish → ℕ) → List Wish → ℕ
greatest_of f [] = 0
greatest_of f (d ∷ drives) = max (f d) (greatest_of f drives)

abbrev pub first_with : (Wish → ℕ) → ℕ → List Wish → ℕ
first_with f value [] = 0
first_with f value (d ∷ drives) = if f d == value then d.address else first_with f value drives

-- the address of the first drive of the ring whose time is the greatest
abbrev pub first_greatest : (Wish → ℕ) → List Wish → ℕ
first_greatest f drives = first_with f (greatest_of f drives) drives

abbrev pub records_drive : WishesView → ℕ
records_drive w = first_greatest (λ d. d.times.tmtsg) w.drives

unfoldable pub trail_t3 : WishesView → List Link
trail_t3 w = trail_t2 w ++ (record { rule = number_of Records; drive = records_drive w; at = w.rate * least_t3 w }) ∷ []

-- the chain to each bound: 9, 8 and 10
abbrev pub mst_chain : WishesView → ChainView
mst_chain w = record {
  links = trail_t2 w;
  rule = number_of NextMst;
  drive = if nat_le (greatest_tmtsy w) w.gap then 0 else first_greatest (λ d. d.times.tmtsy) w.drives;
  sum = sum_9 w (w.rate * least_t2 w) (greatest_tmtsy w);
  bound = bound_9 w;
}

abbrev pub cycle_chain : WishesView → ChainView
cycle_chain w =
    record { links = trail_t3 w; rule = number_of Cycle; drive = records_drive w; sum = w.rate * least_t3 w; bound = w.rate * w.cycle }

abbrev pub capture_chain : WishesView → ChainView
capture_chain w = record {
  links = [];
  rule = number_of Capture;
  drive = first_greatest (λ d. d.times.t4min) w.drives;
  sum = w.rate * greatest_t4min w;
  bound = w.rate * w.cycle;
}

-- the chain to the first bound that the least times break, in the order 9, 8, 10
unfoldable pub chain_of : WishesView → ChainView
chain_of w =
    if nat_le (sum_9 w (w.rate * least_t2 w) (greatest_tmtsy w)) (bound_9 w)
    then (if nat_le (least_t3 w) w.cycle then capture_chain w else cycle_chain w)
    else mst_chain w

-- the planner's result
abbrev pub planned : WishesView → Result PlanView ChainView
planned w = if is_roomy w then Ok (least_plan w) else Err (chain_of w)

-- the links to T1 of the drive at an index of the order
abbrev pub trail_to : WishesView → ℕ → List Link
trail_to w at = trail w (starts w) (first_sent w.order (suc at)) (slice_index w.order at)

abbrev pub trail_to_some : WishesView → Option ℕ → List Link
trail_to_some w None = []
trail_to_some w (Some at) = trail_to w at

-- an inequality is tight for the AT at an index of the order
abbrev pub is_tight_at : WishesView → ((ℕ → ℕ) → ℕ → List ℕ → Option ℕ) → ℕ → Bool
is_tight_at w asked at =
    is_tight w (asked (bits_of_starts w) (slice_index w.order at) (first_sent w.order at)) (starts w (slice_index w.order at))

-- t1 is the list of the least T1
pub record AreStarts (w : WishesView) (t1 : List ℕ) : Type 0 where
  pub count : length t1 ≡ length w.drives
  pub value : (j : ℕ) → slice_index t1 j ≡ starts w j
  pub limit : (j : ℕ) → slice_index t1 j ≤ 66300 * 64

abbrev pub time_of : Time → Wish → ℕ
time_of Tmtsy d = d.times.tmtsy
time_of Tmtsg d = d.times.tmtsg
time_of T4min d = d.times.t4min
