-- What the inequality and the drive of the first violation mean for a plan.
use Rattle.std.specs.Prelude.{◌≡◌, ◌≢◌, ℕ, ◌*◌, ◌%◌, ◌<◌, ◌≤◌, List, ◌∷◌, ◌++◌, length, take, slice_index, Option}
use Rattle.sercos_timing.specs.Views.{WishesView, PlanView}
use Rattle.sercos_timing.specs.Order.{wish, sent, bits_of, record_bytes}
use Rattle.sercos_timing.specs.Inequalities.{asked_1, asked_2, asked_3, asked_4, asked_5, asked_6, asked_7, asked_10, sum_9, bound_9, greatest_tmtsy, positions, Meets, Keeps}
use Rattle.sercos_timing.specs.declared.fitting.Broken.{Broken}

-- an inequality, by its number, is kept
pub data IsKept (w : WishesView) (p : PlanView) : ℕ → Type 0 where
  kept_1 : Keeps (asked_1 w (bits_of w p.t1)) (bits_of w p.t1) (sent w) → IsKept w p 1
  kept_2 : Keeps (asked_2 w (bits_of w p.t1)) (bits_of w p.t1) (sent w) → IsKept w p 2
  kept_3 : Keeps (asked_3 w (bits_of w p.t1)) (bits_of w p.t1) (sent w) → IsKept w p 3
  kept_4 : Keeps (asked_4 w (bits_of w p.t1)) (bits_of w p.t1) (sent w) → IsKept w p 4
  kept_5 : Meets (asked_5 w (bits_of w p.t1) (sent w)) (w.rate * p.t2) → IsKept w p 5
  kept_6 : Keeps (asked_6 w (bits_of w p.t1)) (λ k. w.rate * p.t2) (sent w) → IsKept w p 6
  kept_7 : Keeps (asked_7 w (w.rate * p.t2)) (λ k. w.rate * p.t3) (sent w) → IsKept w p 7
  kept_8 : p.t3 ≤ w.cycle → IsKept w p 8
  kept_9 : sum_9 w (w.rate * p.t2) (greatest_tmtsy w) ≤ bound_9 w → IsKept w p 9
  kept_10 : Keeps (asked_10 w p.t4) (λ k. w.cycle) (sent w) → IsKept w p 10
  kept_11 : 0 < w.control → w.control % w.cycle ≡ 0 → IsKept w p 11

-- the requirement on the AT of the drive k isn't met, and that on each AT sent before it is
pub record FailsFirstAt (asked : ℕ → List ℕ → Option ℕ) (has : ℕ → ℕ) (ats : List ℕ) (k : ℕ) : Type 0 where
  pub later : List ℕ
  pub before : List ℕ
  pub order : ats ≡ later ++ k ∷ before
  pub fails : Meets (asked k before) (has k) → ⊥
  pub kept : Keeps asked has before

-- an inequality, by its number, fails for the drive with an address; the address is 0 if no single
-- drive is meant
pub data IsBroken (w : WishesView) (p : PlanView) : ℕ → ℕ → Type 0 where
  broken_1 : (k : ℕ) → FailsFirstAt (asked_1 w (bits_of w p.t1)) (bits_of w p.t1) (sent w) k → IsBroken w p 1 (wish w k).address
  broken_2 : (k : ℕ) → FailsFirstAt (asked_2 w (bits_of w p.t1)) (bits_of w p.t1) (sent w) k → IsBroken w p 2 (wish w k).address
  broken_3 : (k : ℕ) → FailsFirstAt (asked_3 w (bits_of w p.t1)) (bits_of w p.t1) (sent w) k → IsBroken w p 3 (wish w k).address
  broken_4 : (k : ℕ) → FailsFirstAt (asked_4 w (bits_of w p.t1)) (bits_of w p.t1) (sent w) k → IsBroken w p 4 (wish w k).address
  broken_5 : (Meets (asked_5 w (bits_of w p.t1) (sent w)) (w.rate * p.t2) → ⊥) → IsBroken w p 5 0
  broken_6 : (k : ℕ) → FailsFirstAt (asked_6 w (bits_of w p.t1)) (λ j. w.rate * p.t2) (sent w) k → IsBroken w p 6 (wish w k).address
  broken_7 : (k : ℕ) → FailsFirstAt (asked_7 w (w.rate * p.t2)) (λ j. w.rate * p.t3) (sent w) k → IsBroken w p 7 (wish w k).address
  broken_8 : w.cycle < p.t3 → IsBroken w p 8 0
  broken_9 : bound_9 w < sum_9 w (w.rate * p.t2) (greatest_tmtsy w) → IsBroken w p 9 0
  broken_10 : (k : ℕ) → FailsFirstAt (asked_10 w p.t4) (λ j. w.cycle) (sent w) k → IsBroken w p 10 (wish w k).address
  -- k is the first drive of the ring whose position is wrong
  misplaced : (k : ℕ) → k < length w.drives → take k p.position ≡ take k (positions 1 w.drives) →
      slice_index p.position k ≢ slice_index (positions 1 w.drives) k → IsBroken w p 12 (wish w k).address
  -- the positions are right, and only the length of the MDT is wrong
  of_other_length : p.position ≡ positions 1 w.drives → p.mdt_len ≢ record_bytes w.drives → IsBroken w p 12 0

-- this inequality is broken, and each one with a smaller number is kept
pub record IsFirstBroken (w : WishesView) (p : PlanView) (b : Broken) : Type 0 where
  pub smaller : (number : ℕ) → 1 ≤ number → number < b.rule → IsKept w p number
  pub broken : IsBroken w p b.rule b.drive
