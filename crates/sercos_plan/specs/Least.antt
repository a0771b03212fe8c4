-- The least plan; and that no plan fits.
use Rattle.std.specs.Prelude.{ℕ, ◌≤◌, slice_index}
use Rattle.sercos_timing.specs.Views.{WishesView, PlanView}
use Rattle.sercos_timing.specs.Inequalities.{Fits}

-- the plan fits, and every plan that fits has each T1, T2 and T3 at least as late, and T4 at most
-- as late
pub record IsLeast (w : WishesView) (p : PlanView) : Type 0 where
  pub fits : Fits w p
  pub t1 : (q : PlanView) → Fits w q → (k : ℕ) → slice_index p.t1 k ≤ slice_index q.t1 k
  pub t2 : (q : PlanView) → Fits w q → p.t2 ≤ q.t2
  pub t3 : (q : PlanView) → Fits w q → p.t3 ≤ q.t3
  pub t4 : (q : PlanView) → Fits w q → q.t4 ≤ p.t4

-- no plan fits
abbrev pub NoneFits : WishesView → Type 0
NoneFits w = (p : PlanView) → Fits w p → ⊥
