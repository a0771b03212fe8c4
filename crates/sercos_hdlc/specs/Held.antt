-- The plain bits that a reader has stored.
use Rattle.std.specs.Prelude.{◌≡◌, ◌≤◌, ◌⊎◌, Bool, List, ◌++◌, length}
use Rattle.sercos_model.specs.Bits.{low_bits, bits_of}
use Rattle.sercos_hdlc.specs.declared.kept.Kept.{Kept}

-- all of them, unless they are more than the most bytes between two flags and the first six bits of
-- a closing flag, a zero and five ones
pub record IsKept (plain : List Bool) (kept : Kept) : Type 0 where
  pub all : (plain ≡ bits_of kept.bytes ++ low_bits kept.rest_len kept.rest) ⊎ (16408 ≤ length plain)
