-- The sooner of two moments.
use Rattle.std.specs.Prelude.{ℕ, ◌==◌, ◌||◌, nat_lt, min, if◌then◌else◌, Option, Some, None}

abbrev pub soonest : Option ℕ → ℕ → Option ℕ
soonest None at = Some at
soonest (Some other) at = Some (min at other)

-- with a ring of which n cycles are left, and whose next one begins at a moment, counted from another one on
abbrev pub sooner : Option ℕ → ℕ → ℕ → ℕ → Option ℕ
sooner best left at from = if (left == 0) || nat_lt at from then best else soonest best at
