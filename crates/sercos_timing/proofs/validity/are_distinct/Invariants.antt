use Rattle.std.proofs.Common.{◌≡◌, ℕ, ◌<◌, slice_index}
use Rattle.sercos_timing.proofs.validity.are_distinct.Given as goal

abbrev pub invariant-loop-end : goal.invariant-loop-end
invariant-loop-end l = (i j : ℕ) → i < j → j < l.end → slice_index l.numbers i ≡ slice_index l.numbers j → ⊥
