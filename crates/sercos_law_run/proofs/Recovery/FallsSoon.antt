-- Some drive is in phase 0, or none is; and the slowest drive.
use Rattle.sercos_law_run.proofs.Words.{◌≡◌, ◌⊎◌, inl, inr, ℕ, zero, suc, ◌<◌, ◌≤◌, List, length, sym, ap, ◌∙◌, arith, cases_eq, Job, RingView, slowest, CycleView, Carry, Restarts, standing, drive_at, views_of, IsDown}
use Rattle.sercos_law_run.proofs.Held.Runs.{drive_got}
use Rattle.sercos_law_run.proofs.Bounds.BoundSums.{is_below_greatest}

some_zero : (f : ℕ → ℕ) (n : ℕ) → ((d : ℕ) × (d < n) × (f d ≡ 0)) ⊎ ((k : ℕ) → k < n → f k ≡ 0 → ⊥)
some_zero f zero = inr (λ k below is. omega (arith, below))
some_zero f (suc n) = elim (cases_eq (f n) 0) [
  | inl is ↦ inl (n, omega arith, is)
  | inr other ↦ elim (some_zero f n) [
    | inl found ↦ let low = found.1 in inl (found.0, omega (arith, low), found.2)
    | inr none ↦ inr (λ k below is. elim (cases_eq k n) [ inl same ↦ other (sym (ap f same) ∙ is) | inr differs ↦ none k (omega (arith, below, differs)) is ])
  ]
]

-- SOME DRIVE IS IN PHASE 0, or none is.
pub down_or_up : (r : RingView) (jobs : List Job) (carry : Carry) (restarts : Restarts) (j : List CycleView)
    → ((d : ℕ) × (d < length r.drives) × IsDown r jobs carry restarts d j) ⊎ ((k : ℕ) → k < length r.drives → IsDown r jobs carry restarts k j → ⊥)
down_or_up r jobs carry restarts j = some_zero (λ k. (standing (views_of r jobs carry restarts k j)).ended) (length r.drives)

-- no drive is slower than the slowest
pub busy_slowest : (r : RingView) (k : ℕ) → k < length r.drives → (drive_at r k).busy ≤ slowest r.drives
busy_slowest r k below = is_below_greatest (λ d. d.busy) r.drives k (drive_at r k) (drive_at r k).busy (drive_got r k below) (omega arith)
