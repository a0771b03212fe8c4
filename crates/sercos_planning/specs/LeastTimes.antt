-- The least times that the inequalities 1 to 7 leave, and a chain whose links are at these times. T1 of each drive, by its place in the
-- ring, T2 and T3 are in microseconds.
use Rattle.std.specs.Prelude.{◌≡◌, ℕ, ◌*◌, ◌≤◌}
use Rattle.std.specs.List.{All}
use Rattle.sercos_timing.specs.Views.{WishesView}
use Rattle.sercos_timing.specs.Order.{wish, sent}
use Rattle.sercos_timing.specs.Inequalities.{of_number, asked_1, asked_2, asked_3, asked_4, asked_5, asked_6, asked_7, Meets, Keeps}
use Rattle.sercos_plan.specs.declared.chain.Link.{Link}
use Rattle.sercos_plan.specs.Views.{ChainView}
use Rattle.sercos_plan.specs.Chains.{Moment, moment_of}
use Rattle.sercos_plan.specs.Chains.Moment.{of_t1, of_t2, of_t3, of_none}

-- the bit time of each drive's T1
abbrev pub bits_at : WishesView → (ℕ → ℕ) → ℕ → ℕ
bits_at w t1 k = w.rate * t1 k

-- the times keep the inequalities 1 to 7
pub record KeepTimes (w : WishesView) (t1 : ℕ → ℕ) (t2 t3 : ℕ) : Type 0 where
  pub rule_1 : Keeps (asked_1 w (bits_at w t1)) (bits_at w t1) (sent w)
  pub rule_2 : Keeps (asked_2 w (bits_at w t1)) (bits_at w t1) (sent w)
  pub rule_3 : Keeps (asked_3 w (bits_at w t1)) (bits_at w t1) (sent w)
  pub rule_4 : Keeps (asked_4 w (bits_at w t1)) (bits_at w t1) (sent w)
  pub rule_5 : Meets (asked_5 w (bits_at w t1) (sent w)) (w.rate * t2)
  pub rule_6 : Keeps (asked_6 w (bits_at w t1)) (λ k. w.rate * t2) (sent w)
  pub rule_7 : Keeps (asked_7 w (w.rate * t2)) (λ k. w.rate * t3) (sent w)

-- They do, and no times that do are less, at any place.
pub record AreLeast (w : WishesView) (t1 : ℕ → ℕ) (t2 t3 : ℕ) : Type 0 where
  pub keep : KeepTimes w t1 t2 t3
  pub t1_least : (u1 : ℕ → ℕ) (u2 u3 : ℕ) → KeepTimes w u1 u2 u3 → (k : ℕ) → t1 k ≤ u1 k
  pub t2_least : (u1 : ℕ → ℕ) (u2 u3 : ℕ) → KeepTimes w u1 u2 u3 → t2 ≤ u2
  pub t3_least : (u1 : ℕ → ℕ) (u2 u3 : ℕ) → KeepTimes w u1 u2 u3 → t3 ≤ u3

-- a link is at the bit time of what its inequality bounds: T1 of the drive with its address, T2 or T3
abbrev pub IsAtMoment : WishesView → (ℕ → ℕ) → ℕ → ℕ → Link → Moment → Type 0
IsAtMoment w t1 t2 t3 l of_t1 = (k : ℕ) × ((wish w k).address ≡ l.drive) × (l.at ≡ w.rate * t1 k)
IsAtMoment w t1 t2 t3 l of_t2 = l.at ≡ w.rate * t2
IsAtMoment w t1 t2 t3 l of_t3 = l.at ≡ w.rate * t3
IsAtMoment w t1 t2 t3 l of_none = ⊥

abbrev pub IsAt : WishesView → (ℕ → ℕ) → ℕ → ℕ → Link → Type 0
IsAt w t1 t2 t3 l = IsAtMoment w t1 t2 t3 l (moment_of (of_number l.rule))

-- The links of a chain are at the least times.
pub record IsLeastChain (w : WishesView) (c : ChainView) : Type 0 where
  pub t1 : ℕ → ℕ
  pub t2 : ℕ
  pub t3 : ℕ
  pub least : AreLeast w t1 t2 t3
  pub at : All (IsAt w t1 t2 t3) c.links
