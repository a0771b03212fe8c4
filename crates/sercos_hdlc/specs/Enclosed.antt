-- What a reader that has found a closing flag knows of the bits before it.
use Rattle.std.specs.Prelude.{◌≡◌, ℕ, Bool, false, List, [], ◌∷◌, ◌++◌, length}
use Rattle.std.specs.Option.{option_or}
use Rattle.sercos_hdlc.specs.Reason.{closing_at, plain, after, unreadable, reason_of}
use Rattle.sercos_hdlc.specs.Sought.{ones_then}

-- No rule on flags applies. The closing flag begins at the place, and its first six bits come after
-- the plain bits.
pub record IsEnclosed (bits given : List Bool) (closing len : ℕ) : Type 0 where
  pub left : reason_of bits ≡ option_or (unreadable (plain bits)) (after bits)
  pub place : closing_at bits ≡ closing
  pub whole : given ≡ plain bits ++ (false ∷ ones_then 5 [])
  pub all : len ≡ length (plain bits)
