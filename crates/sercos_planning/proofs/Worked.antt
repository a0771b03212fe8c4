-- The least times of a worked ring, and altered ones that are too early or not least, computed from the definitions.
use Rattle.std.proofs.Common.{◌≡◌, ℕ, zero, suc, refl, arith}
use Rattle.sercos_timing.specs.Views.{WishesView}
use Rattle.sercos_timing.specs.Order.{sent}
use Rattle.sercos_timing.specs.Examples.{two_drives}
use Rattle.sercos_plan.specs.LeastTimes.{least_t1, least_t2, least_t3}
use Rattle.sercos_planning.specs.LeastTimes.{KeepTimes, AreLeast, IsAt}

-- two drives in a cycle of 125 microseconds, which no plan fits
abbrev ring : WishesView
ring = two_drives 125 10

abbrev starts : ℕ → ℕ → ℕ → ℕ
starts first second zero = first
starts first second (suc k) = second

least : (least_t1 ring (sent ring) 0 ≡ 10) × (least_t1 ring (sent ring) 1 ≡ 46) × (least_t2 ring ≡ 83) × (least_t3 ring ≡ 153)
unfolding least_t2 least_t3
least = (refl, refl, refl, refl)

-- they keep the inequalities 1 to 7
kept : KeepTimes ring (starts 10 46) 83 153
kept = record {
  rule_1 = (omega arith, (omega arith, tt));
  rule_2 = (tt, (omega arith, tt));
  rule_3 = (omega arith, (tt, tt));
  rule_4 = (tt, (tt, tt));
  rule_5 = omega arith;
  rule_6 = (omega arith, (omega arith, tt));
  rule_7 = (omega arith, (omega arith, tt));
}

-- a second AT one microsecond earlier breaks 3, and with times one microsecond later none is least
early_is_rejected : KeepTimes ring (starts 10 45) 83 153 → ⊥
early_is_rejected is = let next = is.rule_3.0 in omega (arith, next)

late_is_rejected : AreLeast ring (starts 11 47) 84 154 → ⊥
late_is_rejected is = let low = is.t2_least (starts 10 46) 83 153 kept in omega (arith, low)

-- the links of the ring's chain are at these times, and one a bit time later isn't
links : IsAt ring (starts 10 46) 83 153 (record { rule = 1; drive = 1; at = 40 }) × IsAt ring (starts 10 46) 83 153 (record { rule = 3; drive = 2; at = 184 }) × IsAt ring (starts 10 46) 83 153 (record { rule = 6; drive = 2; at = 332 })
links = ((0, refl, refl), (1, refl, refl), refl)

other_link : IsAt ring (starts 10 46) 83 153 (record { rule = 6; drive = 2; at = 333 }) → ⊥
other_link is = let no : ⊥ = omega (arith, is) in no
