-- The plan of the least times is the least, and where a bound is broken no plan fits.
use Rattle.std.proofs.Common.{◌≡◌, ℕ, zero, suc, ◌+◌, ◌-◌, ◌*◌, ◌<◌, ◌≤◌, ◌⊎◌, inl, inr, max, List, [], ◌∷◌, length, refl, sym, ap, subst, ◌∙◌, arith}
use Rattle.std.specs.Prelude.{Some, unwrap_or, ◌==◌, slice_index}
use Rattle.std.proofs.Math.Nat.{mul-le-mul_left, le_of_mul-le-mul_left}
use Rattle.std.proofs.lemmas.Bool.{cases_eq, cond-false, ne_eqb}
use Rattle.std.proofs.lemmas.Grind.{same_number_lists}
use Rattle.sercos_timing.specs.Views.{WishesView, PlanView}
use Rattle.sercos_timing.specs.Order.{sent, first_sent, times, bits_of, at_bits, mdt_bits, record_bytes}
use Rattle.sercos_timing.specs.Inequalities.{asked_5, asked_6, asked_7, greatest, greatest_tmtsy, sum_9, bound_9, positions, Keeps, Fits}
use Rattle.sercos_plan.specs.Least.{IsLeast, NoneFits}
use Rattle.sercos_plan.specs.LeastTimes.{least_t1, least_bits, least_t2, least_t3, greatest_t4min}
use Rattle.sercos_timing.specs.Valid.{IsValid}
use Rattle.sercos_plan.proofs.LeastLemmas.{round_up-covers, round_up-least, Among, AreApart, AgreeOn, starts_same, least_below, least_keeps, met, meets, meets_same}
use Rattle.sercos_timing.specs.declared.wishes.Wish.{Wish}

-- the least times keep the bounds
pub record IsRoomy (w : WishesView) : Type 0 where
  pub rule_8 : least_t3 w ≤ w.cycle
  pub rule_9 : sum_9 w (w.rate * least_t2 w) (greatest_tmtsy w) ≤ bound_9 w
  pub rule_10 : greatest_t4min w ≤ w.cycle

-- the plan has the least times
pub record IsOfLeast (w : WishesView) (p : PlanView) : Type 0 where
  pub times : length p.t1 ≡ length w.drives
  pub t1 : (k : ℕ) → k < length w.drives → slice_index p.t1 k ≡ least_t1 w (sent w) k
  pub t2 : p.t2 ≡ least_t2 w
  pub t3 : p.t3 ≡ least_t3 w
  pub t4 : p.t4 ≡ w.cycle - greatest_t4min w
  pub position : p.position ≡ positions 1 w.drives
  pub mdt_len : p.mdt_len ≡ record_bytes w.drives

-- who stands among the first ATs
pub among_first : (order : List ℕ) (n j : ℕ) → Among j (first_sent order n) → (i : ℕ) × (i < n) × (j ≡ slice_index order i)
among_first order zero j h = absurd h
among_first order (suc n) j (inl e) = (n, omega arith, e)
among_first order (suc n) j (inr h) = let found = among_first order n j h in let lt = found.1 in (found.0, omega arith, found.2)

pub distinct_first : (order : List ℕ) (n : ℕ) → ((i j : ℕ) → i < j → j < length order → slice_index order i ≡ slice_index order j → ⊥) → n ≤ length order → AreApart (first_sent order n)
distinct_first order zero once within = tt
distinct_first order (suc n) once within =
    (λ h. let found = among_first order n (slice_index order n) h in let lt = found.1 in once found.0 n lt (omega arith) (sym found.2), distinct_first order n once (omega arith))

pub distinct_sent : (w : WishesView) → IsValid w → AreApart (sent w)
distinct_sent w valid = distinct_first w.order (length w.order) valid.order.once (omega arith)

pub among_within : (w : WishesView) → IsValid w → (j : ℕ) → Among j (sent w) → j < length w.drives
among_within w valid j h =
    let found = among_first w.order (length w.order) j h in
    let P : ℕ → Type 0 = λ i. i < length w.drives in
    subst P (sym found.2) (valid.order.within found.0 found.1)

pub rate_some : (w : WishesView) → IsValid w → 0 < w.rate
rate_some w valid = elim valid.cycles.rate [ inl e ↦ omega arith | inr (inl e) ↦ omega arith | inr (inr (inl e)) ↦ omega arith | inr (inr (inr e)) ↦ omega arith ]

-- the greatest of numbers
pub greatest_keeps : (f : ℕ → ℕ) (z : ℕ) (ats : List ℕ) → greatest f ats ≤ z → Keeps (λ k before. Some (f k)) (λ k. z) ats
greatest_keeps f z [] h = tt
greatest_keeps f z (k ∷ before) h = (omega arith, greatest_keeps f z before (omega arith))

pub keeps_greatest : (f : ℕ → ℕ) (z : ℕ) (ats : List ℕ) → Keeps (λ k before. Some (f k)) (λ k. z) ats → greatest f ats ≤ z
keeps_greatest f z [] h = omega arith
keeps_greatest f z (k ∷ before) h = let here = h.0 in let there = keeps_greatest f z before h.1 in omega arith

pub greatest_rises : (f g : ℕ → ℕ) (ats : List ℕ) → ((k : ℕ) → f k ≤ g k) → greatest f ats ≤ greatest g ats
greatest_rises f g [] less = omega arith
greatest_rises f g (k ∷ before) less = let here = less k in let there = greatest_rises f g before less in omega arith

-- a start above 0 is the least of T4 that the greatest leaves
pub keeps_rest : (f : ℕ → ℕ) (t z : ℕ) (ats : List ℕ) → 0 < length ats → Keeps (λ k before. Some (t + f k)) (λ k. z) ats → t + greatest f ats ≤ z
keeps_rest f t z [] some h = omega arith
keeps_rest f t z (k ∷ []) some h = let here = h.0 in omega arith
keeps_rest f t z (k ∷ (j ∷ before)) some h = let here = h.0 in let there = keeps_rest f t z (j ∷ before) (omega arith) h.1 in omega arith

pub rest_keeps : (f : ℕ → ℕ) (t z : ℕ) (ats : List ℕ) → t + greatest f ats ≤ z → Keeps (λ k before. Some (t + f k)) (λ k. z) ats
rest_keeps f t z [] h = tt
rest_keeps f t z (k ∷ before) h = (omega arith, rest_keeps f t z before (omega arith))

pub length_first : (order : List ℕ) (n : ℕ) → length (first_sent order n) ≡ n
length_first order zero = refl
length_first order (suc n) = let rest = length_first order n in omega arith

asked_5_rises : (w : WishesView) (b c : ℕ → ℕ) (ats : List ℕ) → ((j : ℕ) → b j ≤ c j) → unwrap_or (asked_5 w b ats) 0 ≤ unwrap_or (asked_5 w c ats) 0
asked_5_rises w b c [] less = omega arith
asked_5_rises w b c (k ∷ before) less = let here = less k in omega arith

-- no plan that fits has less
pub t1_least : (w : WishesView) → IsValid w → (q : PlanView) → Fits w q → (j : ℕ) → least_t1 w (sent w) j ≤ slice_index q.t1 j
t1_least w valid q fits =
    least_below w (λ k. slice_index q.t1 k) (sent w) (rate_some w valid) (record { rule_1 = fits.rule_1; rule_2 = fits.rule_2; rule_3 = fits.rule_3; rule_4 = fits.rule_4 })

pub bits_least : (w : WishesView) → IsValid w → (q : PlanView) → Fits w q → (j : ℕ) → least_bits w (sent w) j ≤ bits_of w q.t1 j
bits_least w valid q fits j = mul-le-mul_left w.rate (t1_least w valid q fits j)

pub t2_least : (w : WishesView) → IsValid w → (q : PlanView) → Fits w q → least_t2 w ≤ q.t2
unfolding least_t2
t2_least w valid q fits =
    let less = bits_least w valid q fits in
    let low_5 = asked_5_rises w (least_bits w (sent w)) (bits_of w q.t1) (sent w) less in
    let high_5 = met (asked_5 w (bits_of w q.t1) (sent w)) (w.rate * q.t2) fits.rule_5 in
    let low_6 = greatest_rises (λ k. least_bits w (sent w) k + (at_bits w k + w.rate * (times w k).tatmt)) (λ k. bits_of w q.t1 k + (at_bits w k + w.rate * (times w k).tatmt)) (sent w) (λ k. let here = less k in omega arith) in
    let high_6 = keeps_greatest (λ k. bits_of w q.t1 k + (at_bits w k + w.rate * (times w k).tatmt)) (w.rate * q.t2) (sent w) fits.rule_6 in
    round_up-least w.rate _ q.t2 (rate_some w valid) (max_two _ _ _ (le_both _ _ _ low_5 high_5) (le_both _ _ _ low_6 high_6))
  where
    max_two : (a b z : ℕ) → a ≤ z → b ≤ z → max a b ≤ z
    max_two a b z ha hb = omega arith

    le_both : (a b c : ℕ) → a ≤ b → b ≤ c → a ≤ c
    le_both a b c h g = omega arith

pub t3_least : (w : WishesView) → IsValid w → (q : PlanView) → Fits w q → least_t3 w ≤ q.t3
unfolding least_t3
t3_least w valid q fits =
    let less : w.rate * least_t2 w ≤ w.rate * q.t2 = mul-le-mul_left w.rate (t2_least w valid q fits) in
    let low = greatest_rises (λ k. w.rate * least_t2 w + (mdt_bits w + w.rate * (times w k).tmtsg)) (λ k. w.rate * q.t2 + (mdt_bits w + w.rate * (times w k).tmtsg)) (sent w) (λ k. le_add _ _ _ less) in
    let high = keeps_greatest (λ k. w.rate * q.t2 + (mdt_bits w + w.rate * (times w k).tmtsg)) (w.rate * q.t3) (sent w) fits.rule_7 in
    round_up-least w.rate _ q.t3 (rate_some w valid) (le_both _ _ _ low high)
  where
    le_both : (a b c : ℕ) → a ≤ b → b ≤ c → a ≤ c
    le_both a b c h g = omega arith

    le_add : (a b c : ℕ) → a ≤ b → a + c ≤ b + c
    le_add a b c h = omega arith

pub t4_least : (w : WishesView) → IsValid w → (q : PlanView) → Fits w q → q.t4 + greatest_t4min w ≤ w.cycle
t4_least w valid q fits =
    let some = valid.drives.some in
    let count = valid.order.count in
    keeps_rest (λ k. (times w k).t4min) q.t4 w.cycle (sent w) (rewritten (length_first w.order (length w.order)) (omega arith)) fits.rule_10
  where
    rewritten : {a b : ℕ} → a ≡ b → 0 < b → 0 < a
    rewritten e h = omega arith

-- where some plan fits, the least times break no bound
pub roomy : (w : WishesView) → IsValid w → (q : PlanView) → Fits w q → IsRoomy w
roomy w valid q fits =
    let t2 : w.rate * least_t2 w ≤ w.rate * q.t2 = mul-le-mul_left w.rate (t2_least w valid q fits) in
    let t3 = t3_least w valid q fits in
    let t4 = t4_least w valid q fits in
    let sum = fits.rule_9 in
    let end = fits.rule_8 in
    record { rule_9 = below _ _ _ _ t2 sum; rule_8 = both _ _ _ t3 end; rule_10 = rest _ _ _ t4 }
  where
    below : (a b c z : ℕ) → a ≤ b → b + c ≤ z → a + c ≤ z
    below a b c z h g = omega arith

    both : (a b c : ℕ) → a ≤ b → b ≤ c → a ≤ c
    both a b c h g = omega arith

    rest : (a b c : ℕ) → a + b ≤ c → b ≤ c
    rest a b c h = omega arith

-- the plan of the least times fits where they break no bound
keeps_agree : (f g : ℕ → ℕ) (y z : ℕ) (ats : List ℕ) → AgreeOn ats f g → y ≡ z → Keeps (λ k before. Some (f k)) (λ k. y) ats → Keeps (λ k before. Some (g k)) (λ k. z) ats
keeps_agree f g y z [] agree e h = tt
keeps_agree f g y z (k ∷ before) agree e h =
    let same : f k ≡ g k = agree k (inl refl) in
    let here : f k ≤ y = h.0 in
    (omega arith, keeps_agree f g y z before (λ j i. agree j (inr i)) e h.1)

five_agrees : (w : WishesView) (b c : ℕ → ℕ) (ats : List ℕ) → AgreeOn ats b c → asked_5 w b ats ≡ asked_5 w c ats
five_agrees w b c [] agree = refl
five_agrees w b c (k ∷ before) agree = ap (λ x. Some (x + (at_bits w k + w.rate * w.gap))) (agree k (inl refl))

length_positions : (next : ℕ) (ds : List Wish) → length (positions next ds) ≡ length ds
length_positions next [] = refl
length_positions next (d ∷ ds) = let rest = length_positions (next + d.record_len) ds in omega arith

same_bits : (w : WishesView) (p : PlanView) → IsValid w → IsOfLeast w p → AgreeOn (sent w) (least_bits w (sent w)) (bits_of w p.t1)
same_bits w p valid is j among = ap (λ x. w.rate * x) (sym (is.t1 j (among_within w valid j among)))

max_left : (a b z : ℕ) → max a b ≤ z → a ≤ z
max_left a b z h = omega arith

max_right : (a b z : ℕ) → max a b ≤ z → b ≤ z
max_right a b z h = omega arith

pub least_fits : (w : WishesView) (p : PlanView) → IsValid w → IsOfLeast w p → IsRoomy w → Fits w p
unfolding least_t2 least_t3
least_fits w p valid is room =
    let some = rate_some w valid in
    let agree = same_bits w p valid is in
    let starts = starts_same w (least_bits w (sent w)) (bits_of w p.t1) (sent w) agree (least_keeps w (sent w) some (distinct_sent w valid)) in
    let up_2 = round_up-covers w.rate (max (unwrap_or (asked_5 w (least_bits w (sent w)) (sent w)) 0) (greatest (λ k. unwrap_or (asked_6 w (least_bits w (sent w)) k []) 0) (sent w))) some in
    let up_3 = round_up-covers w.rate (greatest (λ k. unwrap_or (asked_7 w (w.rate * least_t2 w) k []) 0) (sent w)) some in
    let t2 : w.rate * least_t2 w ≡ w.rate * p.t2 = ap (λ x. w.rate * x) (sym is.t2) in
    let t3 : w.rate * least_t3 w ≡ w.rate * p.t3 = ap (λ x. w.rate * x) (sym is.t3) in
    record {
      times = is.times;
      places = ap length is.position ∙ length_positions 1 w.drives;
      rule_1 = starts.rule_1;
      rule_2 = starts.rule_2;
      rule_3 = starts.rule_3;
      rule_4 = starts.rule_4;
      rule_5 = meets_same _ _ _ _ (five_agrees w _ _ (sent w) agree) t2 (meets (asked_5 w (least_bits w (sent w)) (sent w)) (w.rate * least_t2 w) (max_left _ _ _ up_2));
      rule_6 = keeps_agree (λ k. least_bits w (sent w) k + (at_bits w k + w.rate * (times w k).tatmt)) (λ k. bits_of w p.t1 k + (at_bits w k + w.rate * (times w k).tatmt)) (w.rate * least_t2 w) (w.rate * p.t2) (sent w)
          (λ j among. ap (λ x. x + (at_bits w j + w.rate * (times w j).tatmt)) (agree j among)) t2 (greatest_keeps (λ k. least_bits w (sent w) k + (at_bits w k + w.rate * (times w k).tatmt)) (w.rate * least_t2 w) (sent w) (max_right _ _ _ up_2));
      rule_7 = keeps_agree (λ k. w.rate * least_t2 w + (mdt_bits w + w.rate * (times w k).tmtsg)) (λ k. w.rate * p.t2 + (mdt_bits w + w.rate * (times w k).tmtsg)) (w.rate * least_t3 w) (w.rate * p.t3) (sent w)
          (λ j among. ap (λ x. x + (mdt_bits w + w.rate * (times w j).tmtsg)) t2) t3 (greatest_keeps (λ k. w.rate * least_t2 w + (mdt_bits w + w.rate * (times w k).tmtsg)) (w.rate * least_t3 w) (sent w) up_3);
      rule_8 = rule_8_at _ _ _ is.t3 room.rule_8;
      rule_9 = sum_at _ _ _ _ t2 room.rule_9;
      rule_10 = rest_keeps (λ k. (times w k).t4min) p.t4 w.cycle (sent w) (rest_at _ _ _ is.t4 room.rule_10);
      rule_11 = valid.cycles.control;
      rule_12 = (is.position, is.mdt_len);
    }
  where
    rule_8_at : (a b c : ℕ) → a ≡ b → b ≤ c → a ≤ c
    rule_8_at a b c e h = omega arith

    sum_at : (a b c z : ℕ) → a ≡ b → a + c ≤ z → b + c ≤ z
    sum_at a b c z e h = omega arith

    rest_at : (a b c : ℕ) → a ≡ c - b → b ≤ c → a + b ≤ c
    rest_at a b c e h = omega arith

past_end : (xs : List ℕ) (k x : ℕ) → (k < length xs → slice_index xs k ≤ x) → slice_index xs k ≤ x
past_end [] k x h = omega arith
past_end (y ∷ ys) zero x h = h (omega arith)
past_end (y ∷ ys) (suc k) x h = past_end ys k x (λ lt. h (omega arith))

pub is_least : (w : WishesView) (p : PlanView) → IsValid w → IsOfLeast w p → IsRoomy w → IsLeast w p
is_least w p valid is room =
    record {
      fits = least_fits w p valid is room;
      t1 = λ q fits k. past_end p.t1 k (slice_index q.t1 k) (λ lt. at_least _ _ _ (is.t1 k (within _ _ _ lt is.times)) (t1_least w valid q fits k));
      t2 = λ q fits. at_least _ _ _ is.t2 (t2_least w valid q fits);
      t3 = λ q fits. at_least _ _ _ is.t3 (t3_least w valid q fits);
      t4 = λ q fits. at_most _ _ _ _ is.t4 (t4_least w valid q fits);
    }
  where
    at_least : (a b c : ℕ) → a ≡ b → b ≤ c → a ≤ c
    at_least a b c e h = omega arith

    within : (k n m : ℕ) → k < n → n ≡ m → k < m
    within k n m h e = omega arith

    at_most : (a b c q : ℕ) → a ≡ c - b → q + b ≤ c → q ≤ a
    at_most a b c q e h = omega arith

-- where a bound is broken, no plan fits
pub none_fits : (w : WishesView) → IsValid w → (IsRoomy w → ⊥) → NoneFits w
none_fits w valid full q fits = full (roomy w valid q fits)

-- the least times are in order, so that all of them are within T3
pub among_greatest : (f : ℕ → ℕ) (ats : List ℕ) (k : ℕ) → Among k ats → f k ≤ greatest f ats
among_greatest f [] k h = absurd h
among_greatest f (j ∷ before) k (inl e) = let same = ap f e in omega arith
among_greatest f (j ∷ before) k (inr h) = let rest = among_greatest f before k h in omega arith

nothing_else : (w : WishesView) (ats : List ℕ) (k : ℕ) → (least_t1 w ats k ≡ 0) ⊎ Among k ats
nothing_else w [] k = inl refl
nothing_else w (j ∷ before) k = elim (cases_eq k j) [
  | inl same ↦ inr (inl same)
  | inr other ↦ elim (nothing_else w before k) [
    | inl none ↦ inl (cond-false (k == j) _ _ (ne_eqb k j other) ∙ none)
    | inr h ↦ inr (inr h)
  ]
]

pub t1_below_t2 : (w : WishesView) → IsValid w → (k : ℕ) → least_t1 w (sent w) k ≤ least_t2 w
unfolding least_t2
t1_below_t2 w valid k = elim (nothing_else w (sent w) k) [
  | inl none ↦ omega arith
  | inr h ↦
      let most = among_greatest (λ i. least_bits w (sent w) i + (at_bits w i + w.rate * (times w i).tatmt)) (sent w) k h in
      let up = max_right _ _ _ (round_up-covers w.rate (max (unwrap_or (asked_5 w (least_bits w (sent w)) (sent w)) 0) (greatest (λ i. unwrap_or (asked_6 w (least_bits w (sent w)) i []) 0) (sent w))) (rate_some w valid)) in
      le_of_mul-le-mul_left {k = w.rate} (joined _ _ _ _ most up) (rate_some w valid)
]
  where
    joined : (a b c d : ℕ) → a + b ≤ c → c ≤ d → a ≤ d
    joined a b c d h g = omega arith

pub t2_below_t3 : (w : WishesView) → IsValid w → least_t2 w ≤ least_t3 w
unfolding least_t3
t2_below_t3 w valid =
    let up = round_up-covers w.rate (greatest (λ k. unwrap_or (asked_7 w (w.rate * least_t2 w) k []) 0) (sent w)) (rate_some w valid) in
    let some = valid.drives.some in
    let count = valid.order.count in
    let low = at_least_one (w.rate * least_t2 w) (λ k. mdt_bits w + w.rate * (times w k).tmtsg) w.order (length w.order) (omega arith) in
    le_of_mul-le-mul_left {k = w.rate} (joined _ _ _ low up) (rate_some w valid)
  where
    joined : (a b c : ℕ) → a ≤ b → b ≤ c → a ≤ c
    joined a b c h g = omega arith

    at_least_one : (a : ℕ) (f : ℕ → ℕ) (order : List ℕ) (n : ℕ) → 0 < n → a ≤ greatest (λ k. a + f k) (first_sent order n)
    at_least_one a f order zero some = absurd (omega arith)
    at_least_one a f order (suc n) some = omega arith

abbrev pub made : List ℕ → ℕ → ℕ → ℕ → List ℕ → ℕ → PlanView
made a b c d e f = record { t1 = a; t2 = b; t3 = c; t4 = d; position = e; mdt_len = f }

pub made_same : (a a' : List ℕ) (b b' c c' d d' : ℕ) (e e' : List ℕ) (f f' : ℕ) → a ≡ a' → b ≡ b' → c ≡ c' → d ≡ d' → e ≡ e' → f ≡ f' → made a b c d e f ≡ made a' b' c' d' e' f'
made_same a a' b b' c c' d d' e e' f f' ea eb ec ed ee ef = rw (ea, eb, ec, ed, ee, ef) refl

-- there is one least plan at most
pub one_least : (w : WishesView) (p q : PlanView) → IsLeast w p → IsLeast w q → p ≡ q
one_least w p q least_p least_q =
    let t1 : p.t1 ≡ q.t1 = same_number_lists p.t1 q.t1 (least_p.fits.times ∙ sym least_q.fits.times) (λ k lt. both (slice_index p.t1 k) (slice_index q.t1 k) (least_p.t1 q least_q.fits k) (least_q.t1 p least_p.fits k)) in
    let t2 : p.t2 ≡ q.t2 = both p.t2 q.t2 (least_p.t2 q least_q.fits) (least_q.t2 p least_p.fits) in
    let t3 : p.t3 ≡ q.t3 = both p.t3 q.t3 (least_p.t3 q least_q.fits) (least_q.t3 p least_p.fits) in
    let t4 : p.t4 ≡ q.t4 = both p.t4 q.t4 (least_q.t4 p least_p.fits) (least_p.t4 q least_q.fits) in
    let position : p.position ≡ q.position = least_p.fits.rule_12.0 ∙ sym least_q.fits.rule_12.0 in
    let mdt_len : p.mdt_len ≡ q.mdt_len = least_p.fits.rule_12.1 ∙ sym least_q.fits.rule_12.1 in
    made_same p.t1 q.t1 p.t2 q.t2 p.t3 q.t3 p.t4 q.t4 p.position q.position p.mdt_len q.mdt_len t1 t2 t3 t4 position mdt_len
  where
    both : (a b : ℕ) → a ≤ b → b ≤ a → a ≡ b
    both a b h g = omega arith

pub t1_fits : (w : WishesView) → IsValid w → IsRoomy w → (k : ℕ) → least_t1 w (sent w) k < 65536
t1_fits w valid room k =
    let low = t1_below_t2 w valid k in
    let high = t2_below_t3 w valid in
    let end = room.rule_8 in
    let cycle : w.cycle ≤ 64000 = elim valid.cycles.cycle [ inl e ↦ omega arith | inr h ↦ h.1 ] in
    omega arith
