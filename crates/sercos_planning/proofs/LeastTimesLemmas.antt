-- The least times keep the inequalities 1 to 7, no times that do are less, and the links of the planner's chain are at these times.
use Rattle.std.proofs.Common.{◌≡◌, ℕ, ◌+◌, ◌*◌, ◌<◌, ◌≤◌, ◌==◌, nat_le, max, Bool, true, false, List, [], ◌∷◌, ◌++◌, Option, Some, None, Result, Ok, Err, IfErr, unwrap_or, refl, sym, subst, arith, if◌then◌else◌}
use Rattle.std.specs.List.{All}
use Rattle.std.proofs.Math.Nat.{mul-le-mul_left}
use Rattle.std.proofs.lemmas.List.Elements.{All-nil, All-cons, All-append}
use Rattle.sercos_timing.specs.Views.{WishesView, PlanView}
use Rattle.sercos_timing.specs.Order.{times, sent, neighbor, previous, at_bits, mdt_bits}
use Rattle.sercos_timing.specs.Valid.{IsValid}
use Rattle.sercos_timing.specs.declared.inequality.Inequality.TheVariants.{Own, Gap, Neighbor, Slave, Last, Master}
use Rattle.sercos_timing.specs.Inequalities.{number_of, asked_1, asked_2, asked_3, asked_5, asked_6, asked_7, greatest, greatest_tmtsy, sum_9, bound_9}
use Rattle.sercos_plan.specs.declared.chain.Link.{Link}
use Rattle.sercos_plan.specs.Chains.{last_place}
use Rattle.sercos_plan.specs.LeastTimes.{least_t1, least_bits, least_t2, least_t3}
use Rattle.sercos_plan.specs.ChainOf.{is_tight, link_of, back_of, trail_at, trail, first_tight, starts, bits_of_starts, trail_by_master, trail_t2, trail_t3, mst_chain, cycle_chain, capture_chain, chain_of}
use Rattle.sercos_plan.specs.Views.{ChainView}
use Rattle.sercos_plan.proofs.LeastLemmas.{round_up-covers, round_up-least, met, meets, least_below, least_keeps}
use Rattle.sercos_plan.proofs.PlanLemmas.{distinct_sent, rate_some, greatest_keeps, keeps_greatest, greatest_rises}
use Rattle.sercos_planning.specs.LeastTimes.{bits_at, KeepTimes, AreLeast, IsAt, IsLeastChain}

max_left : (a b z : ℕ) → max a b ≤ z → a ≤ z
max_left a b z h = omega arith

max_right : (a b z : ℕ) → max a b ≤ z → b ≤ z
max_right a b z h = omega arith

max_two : (a b z : ℕ) → a ≤ z → b ≤ z → max a b ≤ z
max_two a b z ha hb = omega arith

le_both : (a b c : ℕ) → a ≤ b → b ≤ c → a ≤ c
le_both a b c h g = omega arith

le_add : (a b c : ℕ) → a ≤ b → a + c ≤ b + c
le_add a b c h = omega arith

five_rises : (w : WishesView) (b c : ℕ → ℕ) (ats : List ℕ) → ((j : ℕ) → b j ≤ c j) → unwrap_or (asked_5 w b ats) 0 ≤ unwrap_or (asked_5 w c ats) 0
five_rises w b c [] less = omega arith
five_rises w b c (k ∷ before) less = let here = less k in omega arith

-- THE LEAST TIMES
module _ (w : WishesView) (valid : IsValid w) where
  some : 0 < w.rate
  some = rate_some w valid

  keep : KeepTimes w (least_t1 w (sent w)) (least_t2 w) (least_t3 w)
  unfolding least_t2 least_t3
  keep =
      let first = least_keeps w (sent w) some (distinct_sent w valid) in
      let up_2 = round_up-covers w.rate (max (unwrap_or (asked_5 w (least_bits w (sent w)) (sent w)) 0) (greatest (λ k. unwrap_or (asked_6 w (least_bits w (sent w)) k []) 0) (sent w))) some in
      let up_3 = round_up-covers w.rate (greatest (λ k. unwrap_or (asked_7 w (w.rate * least_t2 w) k []) 0) (sent w)) some in
      record {
        rule_1 = first.rule_1;
        rule_2 = first.rule_2;
        rule_3 = first.rule_3;
        rule_4 = first.rule_4;
        rule_5 = meets (asked_5 w (least_bits w (sent w)) (sent w)) (w.rate * least_t2 w) (max_left _ _ _ up_2);
        rule_6 = greatest_keeps (λ k. least_bits w (sent w) k + (at_bits w k + w.rate * (times w k).tatmt)) (w.rate * least_t2 w) (sent w) (max_right _ _ _ up_2);
        rule_7 = greatest_keeps (λ k. w.rate * least_t2 w + (mdt_bits w + w.rate * (times w k).tmtsg)) (w.rate * least_t3 w) (sent w) up_3;
      }

  module _ (u1 : ℕ → ℕ) (u2 u3 : ℕ) (kept : KeepTimes w u1 u2 u3) where
    t1_low : (k : ℕ) → least_t1 w (sent w) k ≤ u1 k
    t1_low = least_below w u1 (sent w) some (record { rule_1 = kept.rule_1; rule_2 = kept.rule_2; rule_3 = kept.rule_3; rule_4 = kept.rule_4 })

    bits_low : (k : ℕ) → least_bits w (sent w) k ≤ bits_at w u1 k
    bits_low k = mul-le-mul_left w.rate (t1_low k)

    t2_low : least_t2 w ≤ u2
    unfolding least_t2
    t2_low =
        let low_5 = five_rises w (least_bits w (sent w)) (bits_at w u1) (sent w) bits_low in
        let high_5 = met (asked_5 w (bits_at w u1) (sent w)) (w.rate * u2) kept.rule_5 in
        let low_6 = greatest_rises (λ k. least_bits w (sent w) k + (at_bits w k + w.rate * (times w k).tatmt)) (λ k. bits_at w u1 k + (at_bits w k + w.rate * (times w k).tatmt)) (sent w) (λ k. le_add _ _ _ (bits_low k)) in
        let high_6 = keeps_greatest (λ k. bits_at w u1 k + (at_bits w k + w.rate * (times w k).tatmt)) (w.rate * u2) (sent w) kept.rule_6 in
        round_up-least w.rate _ u2 some (max_two _ _ _ (le_both _ _ _ low_5 high_5) (le_both _ _ _ low_6 high_6))

    t3_low : least_t3 w ≤ u3
    unfolding least_t3
    t3_low =
        let less : w.rate * least_t2 w ≤ w.rate * u2 = mul-le-mul_left w.rate t2_low in
        let low = greatest_rises (λ k. w.rate * least_t2 w + (mdt_bits w + w.rate * (times w k).tmtsg)) (λ k. w.rate * u2 + (mdt_bits w + w.rate * (times w k).tmtsg)) (sent w) (λ k. le_add _ _ _ less) in
        let high = keeps_greatest (λ k. w.rate * u2 + (mdt_bits w + w.rate * (times w k).tmtsg)) (w.rate * u3) (sent w) kept.rule_7 in
        round_up-least w.rate _ u3 some (le_both _ _ _ low high)

  pub are_least : AreLeast w (least_t1 w (sent w)) (least_t2 w) (least_t3 w)
  are_least = record { keep = keep; t1_least = t1_low; t2_least = t2_low; t3_least = t3_low }

-- THE LINKS of the planner's chain
module _ (w : WishesView) where
  abbrev IsLeastLink : Link → Type 0
  IsLeastLink l = IsAt w (starts w) (least_t2 w) (least_t3 w) l

  one : (l : Link) → IsLeastLink l → All IsLeastLink (l ∷ [])
  one l is = All-cons IsLeastLink l [] is (All-nil IsLeastLink)

  after : (links : List Link) (l : Link) → All IsLeastLink links → IsLeastLink l → All IsLeastLink (links ++ l ∷ [])
  after links l all is = All-append IsLeastLink links (l ∷ []) all (one l is)

  back_at : (back : ℕ → List Link) → ((j : ℕ) → All IsLeastLink (back j)) → (o : Option ℕ) → All IsLeastLink (back_of back o)
  back_at back all None = All-nil IsLeastLink
  back_at back all (Some j) = all j

  abbrev b : ℕ → ℕ
  b j = w.rate * starts w j

  head_at : (k : ℕ) (before : List ℕ) (back : ℕ → List Link) → ((j : ℕ) → All IsLeastLink (back j)) → All IsLeastLink (trail_at w (starts w) k before back)
  unfolding trail_at
  head_at k before back all =
      by (is_tight w (asked_1 w b k before) (starts w k)) (is_tight w (asked_2 w b k before) (starts w k)) (is_tight w (asked_3 w b k before) (starts w k))
    where
      by : (own gap next : Bool) → All IsLeastLink (if own then link_of w (number_of Own) k (starts w k) ∷ []
          else (if gap then link_of w (number_of Gap) k (starts w k) ∷ []
          else (if next then back_of back (neighbor w k before) ++ link_of w (number_of Neighbor) k (starts w k) ∷ []
          else back_of back (previous w k before) ++ link_of w (number_of Slave) k (starts w k) ∷ [])))
      by true gap next = one (link_of w (number_of Own) k (starts w k)) (k, refl, refl)
      by false true next = one (link_of w (number_of Gap) k (starts w k)) (k, refl, refl)
      by false false true = after (back_of back (neighbor w k before)) (link_of w (number_of Neighbor) k (starts w k)) (back_at back all (neighbor w k before)) (k, refl, refl)
      by false false false = after (back_of back (previous w k before)) (link_of w (number_of Slave) k (starts w k)) (back_at back all (previous w k before)) (k, refl, refl)

  trail_low : (ats : List ℕ) (j : ℕ) → All IsLeastLink (trail w (starts w) ats j)
  unfolding trail
  trail_low [] j = All-nil IsLeastLink
  trail_low (k ∷ before) j = by (j == k) (trail_low before)
    where
      by : (same : Bool) → ((i : ℕ) → All IsLeastLink (trail w (starts w) before i)) → All IsLeastLink (if same then trail_at w (starts w) k before (trail w (starts w) before) else trail w (starts w) before j)
      by true all = head_at k before (trail w (starts w) before) all
      by false all = all j

  master_low : (o : Option ℕ) → All IsLeastLink (trail_by_master w o)
  master_low None = All-nil IsLeastLink
  master_low (Some k) = after (trail w (starts w) (sent w) k) (link_of w (number_of Master) k (least_t2 w)) (trail_low (sent w) k) refl

  second_low : All IsLeastLink (trail_t2 w)
  unfolding trail_t2
  second_low = by (is_tight w (asked_5 w (bits_of_starts w) (sent w)) (least_t2 w))
    where
      by : (last : Bool) → All IsLeastLink (if last then trail w (starts w) (sent w) (last_place w) ++ link_of w (number_of Last) (last_place w) (least_t2 w) ∷ []
          else trail_by_master w (first_tight w (bits_of_starts w) (least_t2 w) (sent w)))
      by true = after (trail w (starts w) (sent w) (last_place w)) (link_of w (number_of Last) (last_place w) (least_t2 w)) (trail_low (sent w) (last_place w)) refl
      by false = master_low (first_tight w (bits_of_starts w) (least_t2 w) (sent w))

  third_low : All IsLeastLink (trail_t3 w)
  unfolding trail_t3
  third_low = after (trail_t2 w) _ second_low refl

  links_low : All IsLeastLink (chain_of w).links
  unfolding chain_of
  links_low = by (nat_le (sum_9 w (w.rate * least_t2 w) (greatest_tmtsy w)) (bound_9 w)) (nat_le (least_t3 w) w.cycle)
    where
      by : (first second : Bool) → All IsLeastLink (if first then (if second then capture_chain w else cycle_chain w) else mst_chain w).links
      by true true = All-nil IsLeastLink
      by true false = third_low
      by false second = second_low

pub least_chain : (w : WishesView) → IsValid w → IsLeastChain w (chain_of w)
least_chain w valid = record { t1 = starts w; t2 = least_t2 w; t3 = least_t3 w; least = are_least w valid; at = links_low w }

pub chained : (w : WishesView) (made : Result PlanView ChainView) → IsValid w → IfErr made (λ (c : ChainView). c ≡ chain_of w) → IfErr made (IsLeastChain w)
chained w (Ok p) valid is = tt
chained w (Err c) valid is = subst (IsLeastChain w) (sym is) (least_chain w valid)
