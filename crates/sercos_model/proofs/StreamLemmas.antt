-- A count of faults that stays where it was.
use Rattle.std.proofs.Common.{◌≡◌, ℕ, ◌<◌, inl, inr, arith}
use Rattle.sercos_model.specs.Streams.{Rose}

pub not_risen : (before after : ℕ) → after ≡ before → before < 18446744073709551615 → Rose before after → ⊥
not_risen before after same below (inl more) = omega arith
not_risen before after same below (inr last) = omega arith
