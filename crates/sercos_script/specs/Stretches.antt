-- A script in stretches. Each has a number of a cycle before which none of its faults acts, so that
-- in a cycle only a few of the stretches are searched.
use Rattle.std.specs.Prelude.{◌≡◌, ℕ, ◌+◌, ◌*◌, ◌≤◌, ◌<◌, min, nat_lt, if◌then◌else◌, List, [], length, take, slice_index_or}
use Rattle.std.specs.List.{filter, slice_range}
use Rattle.sercos_script.specs.declared.fault.Fault.{Fault}
use Rattle.sercos_script.specs.Scripts.{acts}

-- The index at which a stretch begins in a script of this length. Each has eight faults; the last
-- of 512 has all that follow.
abbrev pub edge : ℕ → ℕ → ℕ
edge len k = if nat_lt k 512 then min (8 * k) len else len

-- The faults of a stretch.
unfoldable pub stretch : ℕ → List Fault → List Fault
stretch k script = slice_range script (edge (length script) k) (edge (length script) (k + 1))

-- From a cycle on, none of a stretch's faults acts in a cycle before the number of the stretch.
abbrev pub AreAhead : List Fault → ℕ → List ℕ → Type 0
AreAhead script from soonest = (k c : ℕ) → from ≤ c → c < slice_index_or soonest k 0 → filter (acts c) (stretch k script) ≡ []

-- From one cycle on, none of a stretch's faults acts before another cycle.
abbrev pub Rest : List Fault → ℕ → ℕ → ℕ → Type 0
Rest script k from until = (c : ℕ) → from ≤ c → c < until → filter (acts c) (stretch k script) ≡ []

-- The stretches before stretch k have been searched for a cycle, and `acting` are their faults that
-- act in it.
pub record AreDone (script : List Fault) (cycle : ℕ) (soonest : List ℕ) (k : ℕ) (acting : List Fault) : Type 0 where
  pub behind : (j : ℕ) → j < k → Rest script j (cycle + 1) (slice_index_or soonest j 0)
  pub left : (j : ℕ) → k ≤ j → Rest script j cycle (slice_index_or soonest j 0)
  pub gathered : acting ≡ filter (acts cycle) (take (edge (length script) k) script)
