-- The bounds that the halving keeps.
use Rattle.std.proofs.Common.{◌≡◌, ℕ, ◌+◌, ◌*◌, ◌<◌, ◌≤◌, inl, inr, refl, subst, arith}
use Rattle.sercos_timing.specs.Views.{WishesView}
use Rattle.sercos_timing.specs.Valid.{IsCycle}
use Rattle.sercos_plan.specs.Least.{NoneFits}
use Rattle.sercos_margin.specs.Margins.{greatest, declared, with_time, with_cycle, HasPlan, IsMargin, IsBetween, IsLeastOf}
use Rattle.sercos_margin.specs.declared.changes.Time.{Time}
use Rattle.sercos_margin.proofs.EasierLemmas.{less_time, longer_cycle, declared_plan}

pub between_all : (w : WishesView) (k : ℕ) (t : Time) (low high : ℕ) → declared w k t ≤ greatest t → HasPlan w → low ≡ declared w k t → high ≡ greatest t → IsBetween w k t low high
between_all w k t low high within h is_low is_high = record {
  least = omega arith;
  ordered = omega arith;
  most = omega arith;
  fits = declared_plan w k t low is_low h;
  none = λ v above most. absurd (past _ _ _ above most is_high);
}
  where
    past : (a b c : ℕ) → a < b → b ≤ c → a ≡ c → ⊥
    past a b c h g e = omega arith

pub between_higher : (w : WishesView) (k : ℕ) (t : Time) (low high middle : ℕ) → IsBetween w k t low high → low ≤ middle → middle ≤ high →
    HasPlan (with_time w k t middle) → IsBetween w k t middle high
between_higher w k t low high middle b above below h =
    let least = b.least in
    record { least = omega arith; ordered = below; most = b.most; fits = h; none = b.none }

pub between_lower : (w : WishesView) (k : ℕ) (t : Time) (low high middle next : ℕ) → IsBetween w k t low high → low < middle → middle ≤ high → next + 1 ≡ middle →
    NoneFits (with_time w k t middle) → IsBetween w k t low next
between_lower w k t low high middle next b above below is none =
    let most = b.most in
    record {
      least = b.least;
      ordered = omega arith;
      most = omega arith;
      fits = b.fits;
      none = λ v past within p f. none p (less_time w p k t middle v (reached _ _ _ is past) f);
    }
  where
    reached : (n m v : ℕ) → n + 1 ≡ m → n < v → m ≤ v
    reached n m v e h = omega arith

pub between_end : (w : WishesView) (k : ℕ) (t : Time) (low high : ℕ) → IsBetween w k t low high → high ≤ low → IsMargin w k t low
between_end w k t low high b closed =
    let ordered = b.ordered in
    let most = b.most in
    record {
      least = b.least;
      most = omega arith;
      fits = λ v above below. (b.fits.0, less_time w b.fits.0 k t v low below b.fits.1);
      none = λ v above within. b.none v (beyond _ _ _ closed above) within;
    }
  where
    beyond : (x y v : ℕ) → x ≤ y → y < v → x < v
    beyond x y v h g = omega arith

-- a plan fits with 250 microseconds so often as `high` says, and none with a cycle time below those of `low`
pub record IsCycleBetween (w : WishesView) (low high : ℕ) : Type 0 where
  pub some : 1 ≤ low
  pub ordered : low ≤ high
  pub most : high ≤ 256
  pub fits : HasPlan (with_cycle w (250 * high))
  pub none : (c : ℕ) → IsCycle c → c < 250 * low → NoneFits (with_cycle w c)

cycle_some : (c : ℕ) → IsCycle c → 0 < c
cycle_some c (inl e) = omega arith
cycle_some c (inr h) = let long = h.0 in omega arith

cycle_most : (c : ℕ) → IsCycle c → c ≤ 64000
cycle_most c (inl e) = omega arith
cycle_most c (inr h) = h.1

-- a cycle time below the next multiple is at most this one
cycle_within : (c m : ℕ) → 1 ≤ m → IsCycle c → c < 250 * (m + 1) → c ≤ 250 * m
cycle_within c m some (inl e) h = omega arith
cycle_within c m some (inr i) h = let whole = i.2 in omega arith

none_shorter : (w : WishesView) (c d : ℕ) → IsCycle c → c ≤ d → NoneFits (with_cycle w d) → NoneFits (with_cycle w c)
none_shorter w c d is within none p f = none p (longer_cycle w p c d (cycle_some c is) within f)

pub cycle_between_all : (w : WishesView) → NoneFits (with_cycle w 125) → HasPlan (with_cycle w 64000) → IsCycleBetween w 1 256
cycle_between_all w short long = record {
  some = omega arith;
  ordered = omega arith;
  most = omega arith;
  fits = long;
  none = λ c is below. none_shorter w c 125 is (shortest c is below) short;
}
  where
    shortest : (c : ℕ) → IsCycle c → c < 250 * 1 → c ≤ 125
    shortest c (inl e) h = omega arith
    shortest c (inr i) h = let long = i.0 in omega arith

pub cycle_between_lower : (w : WishesView) (low high middle : ℕ) → IsCycleBetween w low high → low ≤ middle → middle ≤ high →
    HasPlan (with_cycle w (250 * middle)) → IsCycleBetween w low middle
cycle_between_lower w low high middle b above below h =
    let most = b.most in
    record { some = b.some; ordered = above; most = omega arith; fits = h; none = b.none }

pub cycle_between_higher : (w : WishesView) (low high middle : ℕ) → IsCycleBetween w low high → low ≤ middle → middle < high →
    NoneFits (with_cycle w (250 * middle)) → IsCycleBetween w (middle + 1) high
cycle_between_higher w low high middle b above below none =
    let some = b.some in
    record {
      some = omega arith;
      ordered = omega arith;
      most = b.most;
      fits = b.fits;
      none = λ c is short. none_shorter w c (250 * middle) is (cycle_within c middle (omega arith) is short) none;
    }

pub cycle_between_end : (w : WishesView) (low high n : ℕ) → IsCycleBetween w low high → high ≤ low → n ≡ 250 * low → IsLeastOf w n
cycle_between_end w low high n b closed is =
    let some = b.some in
    let ordered = b.ordered in
    let most = b.most in
    let same : 250 * high ≡ n = omega arith in
    let fits : HasPlan (with_cycle w n) = subst (λ c. HasPlan (with_cycle w c)) same b.fits in
    record {
      cycle = inr (omega arith, omega arith, omega arith);
      fits = λ c cycle above. (fits.0, longer_cycle w fits.0 n c (omega arith) above fits.1);
      none = λ c cycle below. b.none c cycle (under _ _ _ below is);
    }
  where
    under : (c n m : ℕ) → c < n → n ≡ m → c < m
    under c n m h e = omega arith

pub shortest_cycle : (w : WishesView) → HasPlan (with_cycle w 125) → IsLeastOf w 125
shortest_cycle w h = record {
  cycle = inl refl;
  fits = λ c cycle above. (h.0, longer_cycle w h.0 125 c (omega arith) above h.1);
  none = λ c cycle below. absurd (not_below c cycle below);
}
  where
    not_below : (c : ℕ) → IsCycle c → c < 125 → ⊥
    not_below c (inl e) h = omega arith
    not_below c (inr i) h = let long = i.0 in omega arith

pub no_cycle : (w : WishesView) → NoneFits (with_cycle w 64000) → (c : ℕ) → IsCycle c → NoneFits (with_cycle w c)
no_cycle w none c is = none_shorter w c 64000 is (cycle_most c is) none
