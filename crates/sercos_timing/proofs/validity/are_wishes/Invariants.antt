use Rattle.std.proofs.Common.{ℕ, ◌<◌}
use Rattle.std.specs.Prelude.{slice_index_or}
use Rattle.sercos_timing.specs.Order.{no_wish}
use Rattle.sercos_timing.specs.Valid.{IsWish}
use Rattle.sercos_timing.proofs.validity.are_wishes.Given as goal

abbrev pub invariant-loop-k : goal.invariant-loop-k
invariant-loop-k l = (i : ℕ) → i < l.k → IsWish (slice_index_or l.drives i no_wish)
