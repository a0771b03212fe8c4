-- The numbers of a chain that shows that no plan fits are small.
use Rattle.sercos_law_trace.proofs.Words.{cases_Bool, ◌≡◌, ◌⊎◌, inl, inr, ℕ, zero, suc, ◌+◌, ◌*◌, ◌≤◌, ◌==◌, nat_le, Bool, true, false, List, [], ◌∷◌, ◌++◌, length, max, Option, Some, None, option_map, unwrap_or, slice_index_or, subst, arith, if◌then◌else◌, sum_by-cons, Wish, wish, no_wish, times, sent, neighbor, previous, at_bits, record_bytes, mdt_bits, asked_1, asked_2, asked_3, asked_5, asked_6, asked_7, sum_9, bound_9, greatest, greatest_tmtsy, WishesView, round_up, needed, least_t1, least_bits, greatest_t4min, last_place, is_tight, link_of, back_of, first_tight, starts, bits_of_starts, trail_by_master, greatest_of, first_with, first_greatest, mst_chain, cycle_chain, capture_chain, Link, ChainView, length_first, chain_of, mul-le-mul_left, sym}
use Rattle.sercos_plan.specs.LeastTimes.{least_t2, least_t3}
use Rattle.sercos_plan.specs.ChainOf.{trail_at, trail, trail_t2, trail_t3}
use Rattle.sercos_law_trace.proofs.Clean.SeenLemmas.{Each}

-- WISHES of numbers that are small
pub record IsSmallWish (d : Wish) : Type 0 where
  pub address : d.address ≤ 255
  pub at_len : d.at_len ≤ 68
  pub record_len : d.record_len ≤ 68
  pub t1min : d.times.t1min ≤ 65535
  pub tatmt : d.times.tatmt ≤ 65535
  pub t4min : d.times.t4min ≤ 65535
  pub tatat : d.times.tatat ≤ 65535
  pub tmtsy : d.times.tmtsy ≤ 65535
  pub tmtsg : d.times.tmtsg ≤ 65535

abbrev pub IsRate : ℕ → Type 0
IsRate rate = (rate ≡ 2) ⊎ (rate ≡ 4) ⊎ (rate ≡ 8) ⊎ (rate ≡ 16)

pub record AreSmallWishes (w : WishesView) : Type 0 where
  pub rate : IsRate w.rate
  pub gap : w.gap ≤ 1000
  pub cycle : w.cycle ≤ 64000
  pub order : length w.order ≤ 64
  pub few : length w.drives ≤ 64
  pub drives : Each IsSmallWish w.drives

wish_small : (ds : List Wish) (k : ℕ) → Each IsSmallWish ds → IsSmallWish (slice_index_or ds k no_wish)
wish_small [] k are = record { address = omega arith; at_len = omega arith; record_len = omega arith; t1min = omega arith; tatmt = omega arith; t4min = omega arith; tatat = omega arith; tmtsy = omega arith; tmtsg = omega arith }
wish_small (d ∷ ds) zero are = are.0
wish_small (d ∷ ds) (suc k) are = wish_small ds k are.1

record_small : (ds : List Wish) → Each IsSmallWish ds → record_bytes ds ≤ 68 * length ds
record_small [] are = omega arith
record_small (d ∷ ds) are = omega (arith, sum_by-cons (λ (x : Wish). x.record_len) d ds, record_small ds are.1, are.0.record_len)

-- what holds at each rate
pub by_rate : (P : ℕ → Type 0) (rate : ℕ) → IsRate rate → P 2 → P 4 → P 8 → P 16 → P rate
by_rate P rate (inl is) two four eight sixteen = subst P (sym is) two
by_rate P rate (inr (inl is)) two four eight sixteen = subst P (sym is) four
by_rate P rate (inr (inr (inl is))) two four eight sixteen = subst P (sym is) eight
by_rate P rate (inr (inr (inr is))) two four eight sixteen = subst P (sym is) sixteen

-- a time, some bits and another time end in time at each rate, if they do at the lowest
ends_low : (rate t bits time m : ℕ) → IsRate rate → 2 * t + bits + 2 * time ≤ 2 * m → rate * t + (bits + rate * time) ≤ rate * m
ends_low rate t bits time m is a =
    by_rate (λ r. r * t + (bits + r * time) ≤ r * m) rate is (omega (arith, a)) (omega (arith, a)) (omega (arith, a)) (omega (arith, a))

rounded_low : (rate bits m : ℕ) → IsRate rate → bits ≤ rate * m → round_up rate bits ≤ m
rounded_low rate bits m is =
    by_rate (λ r. bits ≤ r * m → round_up r bits ≤ m) rate is (λ a. omega (arith, a)) (λ a. omega (arith, a)) (λ a. omega (arith, a))
    (λ a. omega (arith, a))

-- a number of bit times of a small time fits a field
bits_fit : (rate time : ℕ) → IsRate rate → time ≤ 66300 * 67 → rate * time ≤ 4294967295
bits_fit rate time is a =
    by_rate (λ r. r * time ≤ 4294967295) rate is (omega (arith, a)) (omega (arith, a)) (omega (arith, a)) (omega (arith, a))

max_low : (a b m : ℕ) → a ≤ m → b ≤ m → max a b ≤ m
max_low a b m la lb = omega (arith, la, lb)

some_low : (o : Option ℕ) (f : ℕ → ℕ) (m : ℕ) → ((j : ℕ) → f j ≤ m) → unwrap_or (option_map f o) 0 ≤ m
some_low None f m low = omega arith
some_low (Some j) f m low = low j

greatest_low : (f : ℕ → ℕ) (ks : List ℕ) (m : ℕ) → ((k : ℕ) → f k ≤ m) → greatest f ks ≤ m
greatest_low f [] m low = omega arith
greatest_low f (k ∷ ks) m low = max_low (f k) (greatest f ks) m (low k) (greatest_low f ks m low)

-- a link fits its line
pub record IsSmallLink (l : Link) : Type 0 where
  pub rule : l.rule ≤ 255
  pub drive : l.drive ≤ 255
  pub at : l.at ≤ 4294967295

pub record IsSmallChain (c : ChainView) : Type 0 where
  pub links : Each IsSmallLink c.links
  pub rule : c.rule ≤ 255
  pub drive : c.drive ≤ 255
  pub sum : c.sum ≤ 4294967295
  pub bound : c.bound ≤ 4294967295

both_lists : (xs ys : List Link) → Each IsSmallLink xs → Each IsSmallLink ys → Each IsSmallLink (xs ++ ys)
both_lists [] ys one two = two
both_lists (x ∷ xs) ys one two = (one.0, both_lists xs ys one.1 two)

module _ (w : WishesView) (small : AreSmallWishes w) where
  of : (k : ℕ) → IsSmallWish (wish w k)
  of k = wish_small w.drives k small.drives

  at_bits_low : (k : ℕ) → at_bits w k ≤ 697
  at_bits_low k = let low = (of k).at_len in omega (arith, low)

  -- STARTS
  needed_low : (t : ℕ → ℕ) (n k m : ℕ) (before : List ℕ) → ((j : ℕ) → t j ≤ 66300 * n) → m ≡ 66300 * n + 66300 → needed w (λ i. w.rate * t i) k before ≤ w.rate * m
  needed_low t n k m before low is = max_low _ _ (w.rate * m) (mul-le-mul_left w.rate (omega (arith, (of k).t1min, is)))
      (max_low _ _ (w.rate * m) (second before)
      (max_low _ _ (w.rate * m) (some_low (neighbor w k before) (λ j. w.rate * t j + (at_bits w j + w.rate * w.gap)) (w.rate * m)
      (λ j. ends_low w.rate (t j) (at_bits w j) w.gap m small.rate
      (omega (arith, small.gap, low j, at_bits_low j, is))))
      (some_low (previous w k before) (λ j. w.rate * t j + (at_bits w j + w.rate * (times w k).tatat)) (w.rate * m)
      (λ j. ends_low w.rate (t j) (at_bits w j) (times w k).tatat m small.rate
      (omega (arith, (of k).tatat, low j, at_bits_low j, is))))))
    where
      second : (before : List ℕ) → unwrap_or (asked_2 w (λ i. w.rate * t i) k before) 0 ≤ w.rate * m
      second [] = mul-le-mul_left w.rate (omega (arith, small.gap, is))
      second (j ∷ before) = omega arith

  least_low : (ats : List ℕ) (j : ℕ) → least_t1 w ats j ≤ 66300 * length ats
  least_low [] j = omega arith
  least_low (k ∷ before) j = elim (cases_Bool (j == k)) [
    | inl on ↦ rw on (rounded_low w.rate (needed w (λ i. w.rate * least_t1 w before i) k before) (66300 * suc (length before)) small.rate
        (needed_low (least_t1 w before) (length before) k (66300 * suc (length before)) before (least_low before) (omega arith)))
    | inr off ↦ rw off (omega (arith, least_low before j))
  ]

  start_low : (j : ℕ) → least_t1 w (sent w) j ≤ 66300 * 64
  start_low j = let low = least_low (sent w) j in let long = length_first w.order (length w.order) in let few = small.order in omega (arith, low, long, few)

  -- T2 AND T3
  t2_low : least_t2 w ≤ 66300 * 65
  unfolding least_t2
  t2_low = rounded_low w.rate _ (66300 * 65) small.rate (max_low _ _ (w.rate * (66300 * 65)) (five (sent w))
      (greatest_low (λ k. unwrap_or (asked_6 w (least_bits w (sent w)) k []) 0) (sent w) (w.rate * (66300 * 65))
      (λ k. ends_low w.rate (least_t1 w (sent w) k) (at_bits w k) (times w k).tatmt (66300 * 65) small.rate
      (let a = (of k).tatmt in let b = start_low k in let c = at_bits_low k in omega (arith, a, b, c)))))
    where
      five : (ats : List ℕ) → unwrap_or (asked_5 w (least_bits w (sent w)) ats) 0 ≤ w.rate * (66300 * 65)
      five [] = omega arith
      five (k ∷ before) =
          ends_low w.rate (least_t1 w (sent w) k) (at_bits w k) w.gap (66300 * 65) small.rate
          (let a = small.gap in let b = start_low k in let c = at_bits_low k in omega (arith, a, b, c))

  mdt_bits_low : mdt_bits w ≤ 41824
  mdt_bits_low = let low = record_small w.drives small.drives in let few = small.few in omega (arith, low, few)

  t3_low : least_t3 w ≤ 66300 * 67
  unfolding least_t3
  t3_low = rounded_low w.rate _ (66300 * 67) small.rate (greatest_low (λ k. unwrap_or (asked_7 w (w.rate * least_t2 w) k []) 0) (sent w) (w.rate * (66300 * 67))
      (λ k. ends_low w.rate (least_t2 w) (mdt_bits w) (times w k).tmtsg (66300 * 67) small.rate
      (let a = (of k).tmtsg in let b = t2_low in let c = mdt_bits_low in omega (arith, a, b, c))))

  -- THE LINKS
  one_link : (rule k t : ℕ) → rule ≤ 255 → t ≤ 66300 * 67 → IsSmallLink (link_of w rule k t)
  one_link rule k t low time = record { rule = low; drive = (of k).address; at = bits_fit w.rate t small.rate time }

  back_small : (back : ℕ → List Link) (o : Option ℕ) → ((j : ℕ) → Each IsSmallLink (back j)) → Each IsSmallLink (back_of back o)
  back_small back None each = tt
  back_small back (Some j) each = each j

  trail_at_small : (t : ℕ → ℕ) (k : ℕ) (before : List ℕ) (back : ℕ → List Link) → ((j : ℕ) → t j ≤ 66300 * 64) → ((j : ℕ) → Each IsSmallLink (back j)) → Each IsSmallLink (trail_at w t k before back)
  unfolding trail_at
  trail_at_small t k before back low each =
      by (is_tight w (asked_1 w (λ j. w.rate * t j) k before) (t k)) (is_tight w (asked_2 w (λ j. w.rate * t j) k before) (t k)) (is_tight w (asked_3 w (λ j. w.rate * t j) k before) (t k))
    where
      time : t k ≤ 66300 * 67
      time = let a = low k in omega (arith, a)

      by : (a b c : Bool) → Each IsSmallLink (if a then link_of w 1 k (t k) ∷ [] else (if b then link_of w 2 k (t k) ∷ [] else (if c then back_of back (neighbor w k before) ++ link_of w 3 k (t k) ∷ [] else back_of back (previous w k before) ++ link_of w 4 k (t k) ∷ [])))
      by true b c = (one_link 1 k (t k) (omega arith) time, tt)
      by false true c = (one_link 2 k (t k) (omega arith) time, tt)
      by false false true = both_lists (back_of back (neighbor w k before)) (link_of w 3 k (t k) ∷ []) (back_small back (neighbor w k before) each) (one_link 3 k (t k) (omega arith) time, tt)
      by false false false = both_lists (back_of back (previous w k before)) (link_of w 4 k (t k) ∷ []) (back_small back (previous w k before) each) (one_link 4 k (t k) (omega arith) time, tt)

  trail_small : (t : ℕ → ℕ) (ats : List ℕ) → ((j : ℕ) → t j ≤ 66300 * 64) → (j : ℕ) → Each IsSmallLink (trail w t ats j)
  unfolding trail
  trail_small t [] low j = tt
  trail_small t (k ∷ before) low j = elim (cases_Bool (j == k)) [
    | inl on ↦ rw on (trail_at_small t k before (trail w t before) low (trail_small t before low))
    | inr off ↦ rw off (trail_small t before low j)
  ]

  by_master : (o : Option ℕ) → Each IsSmallLink (trail_by_master w o)
  by_master None = tt
  by_master (Some k) = both_lists (trail w (starts w) (sent w) k) (link_of w 6 k (least_t2 w) ∷ []) (trail_small (starts w) (sent w) start_low k) (one_link 6 k (least_t2 w) (omega arith) (let a = t2_low in omega (arith, a)), tt)

  t2_trail : Each IsSmallLink (trail_t2 w)
  unfolding trail_t2
  t2_trail = by (is_tight w (asked_5 w (bits_of_starts w) (sent w)) (least_t2 w))
    where
      by : (b : Bool) → Each IsSmallLink (if b then trail w (starts w) (sent w) (last_place w) ++ link_of w 5 (last_place w) (least_t2 w) ∷ [] else trail_by_master w (first_tight w (bits_of_starts w) (least_t2 w) (sent w)))
      by true = both_lists (trail w (starts w) (sent w) (last_place w)) (link_of w 5 (last_place w) (least_t2 w) ∷ []) (trail_small (starts w) (sent w) start_low (last_place w)) (one_link 5 (last_place w) (least_t2 w) (omega arith) (let a = t2_low in omega (arith, a)), tt)
      by false = by_master (first_tight w (bits_of_starts w) (least_t2 w) (sent w))

  with_low : (f : Wish → ℕ) (value : ℕ) (ds : List Wish) → Each IsSmallWish ds → first_with f value ds ≤ 255
  with_low f value [] are = omega arith
  with_low f value (d ∷ ds) are = elim (cases_Bool (f d == value)) [
    | inl on ↦ rw on are.0.address
    | inr off ↦ rw off (with_low f value ds are.1)
  ]

  greatest_drive_low : (f : Wish → ℕ) → first_greatest f w.drives ≤ 255
  greatest_drive_low f = with_low f (greatest_of f w.drives) w.drives small.drives

  t3_trail : Each IsSmallLink (trail_t3 w)
  unfolding trail_t3
  t3_trail = both_lists (trail_t2 w) _ t2_trail (record { rule = omega arith; drive = greatest_drive_low (λ (d : Wish). d.times.tmtsg); at = bits_fit w.rate (least_t3 w) small.rate t3_low }, tt)

  -- THE CHAINS
  cycle_bound : w.rate * w.cycle ≤ 4294967295
  cycle_bound = bits_fit w.rate w.cycle small.rate (let a = small.cycle in omega (arith, a))

  mst_small : IsSmallChain (mst_chain w)
  mst_small = record {
    links = t2_trail;
    rule = omega arith;
    drive = elim (cases_Bool (nat_le (greatest_tmtsy w) w.gap)) [
      | inl on ↦ rw on (omega arith)
      | inr off ↦ rw off (greatest_drive_low (λ (d : Wish). d.times.tmtsy))
    ];
    sum =
        omega (
          arith,
          ends_low w.rate (least_t2 w) (mdt_bits w) (max w.gap (greatest_tmtsy w)) (66300 * 67) small.rate
              (omega (
                arith,
                max_low w.gap (greatest_tmtsy w) 65535 (omega (arith, small.gap))
                    (greatest_low (λ k. (times w k).tmtsy) (sent w) 65535 (λ k. (of k).tmtsy)),
                t2_low,
                mdt_bits_low,
              )),
          bits_fit w.rate
              (66300 * 67) small.rate (omega arith),
        );
    bound = omega (arith, cycle_bound);
  }

  pub chain_small : IsSmallChain (chain_of w)
  unfolding chain_of
  chain_small = by (nat_le (sum_9 w (w.rate * least_t2 w) (greatest_tmtsy w)) (bound_9 w)) (nat_le (least_t3 w) w.cycle)
    where
      by : (a b : Bool) → IsSmallChain (if a then (if b then capture_chain w else cycle_chain w) else mst_chain w)
      by true true = record {
        links = tt;
        rule = omega arith;
        drive = greatest_drive_low (λ (d : Wish). d.times.t4min);
        sum = bits_fit w.rate (greatest_t4min w) small.rate
            (let a = greatest_low (λ k. (times w k).t4min) (sent w) 65535 (λ k. (of k).t4min) in omega (arith, a));
        bound = cycle_bound;
      }
      by true false = record {
        links = t3_trail;
        rule = omega arith;
        drive = greatest_drive_low (λ (d : Wish). d.times.tmtsg);
        sum =
            bits_fit w.rate (least_t3 w) small.rate t3_low;
        bound = cycle_bound;
      }
      by false b = mst_small
