-- The search for the closing flag: what is known of the bits after the opening flag, regardless of
-- the bits that follow.
use Rattle.std.specs.Prelude.{◌≡◌, ℕ, zero, suc, ◌+◌, ◌≤◌, ◌==◌, ◌⊎◌, Bool, true, false, ◌&&◌, ◌||◌, cond, List, [], ◌∷◌, ◌++◌, length, slice_index_or}
use Rattle.std.specs.Bool.{beq}
use Rattle.sercos_hdlc.specs.Reason.{six_place, ends_in_five, unstuffed}

-- k ones, followed by the bits
abbrev pub ones_then : ℕ → List Bool → List Bool
ones_then zero bits = bits
ones_then (suc k) bits = true ∷ ones_then k bits

-- whether the bits agree with the others as far as both go
unfoldable pub agree : List Bool → List Bool → Bool
agree [] others = true
agree (bit ∷ bits) [] = true
agree (bit ∷ bits) (other ∷ others) = beq bit other && agree bits others

-- the number of ones in a row at the end of the bits, if k ones precede them
unfoldable pub ones_after : ℕ → List Bool → ℕ
ones_after k [] = k
ones_after k (true ∷ bits) = ones_after (suc k) bits
ones_after k (false ∷ bits) = ones_after 0 bits

-- whether the bits contain a sixth one in a row, if k ones precede them
unfoldable pub has_six : ℕ → List Bool → Bool
has_six k [] = false
has_six k (true ∷ bits) = (k == 5) || has_six (suc k) bits
has_six k (false ∷ bits) = has_six 0 bits

-- the offset of the sixth one in a row, if k ones precede the bits; the number of bits without it
unfoldable pub sixth_at : ℕ → List Bool → ℕ
sixth_at k [] = 0
sixth_at k (true ∷ bits) = cond (k == 5) 0 (suc (sixth_at (suc k) bits))
sixth_at k (false ∷ bits) = suc (sixth_at 0 bits)

-- whether the last zero is an inserted one, if k ones precede the bits; without a zero, the value
-- from before
unfoldable pub dropped_after : ℕ → Bool → List Bool → Bool
dropped_after k dropped [] = dropped
dropped_after k dropped (true ∷ bits) = dropped_after (suc k) dropped bits
dropped_after k dropped (false ∷ bits) = dropped_after 0 (k == 5) bits

-- The bits end in a zero and k ones. The zero was dropped if five ones precede it. The plain bits
-- before it are those of the body.
pub record IsBehindZero (bits : List Bool) (k : ℕ) (dropped : Bool) (plain : List Bool) : Type 0 where
  pub body : List Bool
  pub whole : bits ≡ body ++ (false ∷ ones_then k [])
  pub ends : ends_in_five body ≡ dropped
  pub before : plain ≡ unstuffed 0 body ++ (cond dropped [] (false ∷ []) ++ ones_then k [])

-- The bits have no six ones in a row. They end in k ones, and spell these plain bits.
pub record IsSought (bits : List Bool) (k : ℕ) (dropped : Bool) (plain : List Bool) : Type 0 where
  pub few : k ≤ 5
  pub six : (more : List Bool) → six_place (bits ++ more) + k ≡ length bits + six_place (ones_then k more)
  pub gives : (more : List Bool) → unstuffed 0 (bits ++ more) ≡ plain ++ unstuffed k more
  pub ends : (more : List Bool) → ends_in_five (bits ++ more) ≡ ends_in_five (ones_then k more)
  pub last_zero : (length bits ≡ k) ⊎ IsBehindZero bits k dropped plain

-- The bits contain six ones in a row, with the bits `before` in front of the sixth one and `more`
-- after it. The closing flag begins with the bit before the six; its offset counts from the first
-- bit of the opening flag.
pub record IsFound (bits : List Bool) (ones closing : ℕ) (seventh dropped : Bool) (plain : List Bool) : Type 0 where
  pub six : ones ≡ 6
  pub before : List Bool
  pub more : List Bool
  pub whole : bits ≡ before ++ (true ∷ more)
  pub sought : IsSought before 5 dropped plain
  pub place : closing ≡ length before + 2
  pub next : seventh ≡ slice_index_or more 0 false
