-- The frame check sequence of ISO/IEC 3309, as the remainder of a division of polynomials over the field of two
-- elements. A polynomial is the list of its coefficients, that of the highest power first.
use Rattle.std.specs.Prelude.{◌≡◌, ℕ, zero, suc, ◌-◌, Bool, true, false, not, List, [], ◌∷◌, ◌++◌, length, map}
use Rattle.sercos_model.specs.Bits.{number_of, bits_of}

-- the sum of two coefficients
unfoldable pub sum_of : Bool → Bool → Bool
sum_of true bit = not bit
sum_of false bit = bit

-- the first list, added to the front of the second
unfoldable pub added : List Bool → List Bool → List Bool
added [] ys = ys
added (x ∷ xs) [] = []
added (x ∷ xs) (y ∷ ys) = sum_of x y ∷ added xs ys

-- the coefficients of the generator x^16 + x^12 + x^5 + 1 below that of x^16
abbrev pub generator : List Bool
generator =
    false ∷ false ∷ false ∷ true ∷ false ∷ false ∷ false ∷ false ∷ false ∷ false ∷ true ∷ false ∷ false ∷ false ∷ false ∷ true ∷ []

abbrev pub sixteen_zeros : List Bool
sixteen_zeros =
    false ∷ false ∷ false ∷ false ∷ false ∷ false ∷ false ∷ false ∷ false ∷ false ∷ false ∷ false ∷ false ∷ false ∷ false ∷ false ∷ []

abbrev pub sixteen_ones : List Bool
sixteen_ones =
    true ∷ true ∷ true ∷ true ∷ true ∷ true ∷ true ∷ true ∷ true ∷ true ∷ true ∷ true ∷ true ∷ true ∷ true ∷ true ∷ []

-- what a long division by the generator leaves after its first steps: where the leading coefficient is a one, the
-- generator is taken away, and in each step the leading coefficient, now zero, is dropped
unfoldable pub divided : ℕ → List Bool → List Bool
divided zero p = p
divided (suc steps) [] = []
divided (suc steps) (false ∷ p) = divided steps p
divided (suc steps) (true ∷ p) = divided steps (added generator p)

-- the remainder of a division by the generator: sixteen coefficients
abbrev pub remainder : List Bool → List Bool
remainder p = divided (length p - 16) p

-- what is divided: the bits of the bytes and sixteen zeros, the first sixteen complemented
abbrev pub dividend : List ℕ → List Bool
dividend bytes = added sixteen_ones (bits_of bytes ++ sixteen_zeros)

-- the frame check sequence of bytes: the complement of the remainder, the coefficient of x^15 being bit 0
unfoldable pub fcs_of : List ℕ → ℕ
fcs_of bytes = number_of (map not (remainder (dividend bytes)))

-- The generator taken once for each coefficient of a quotient that is a one, each time one place further back.
unfoldable pub times_generator : List Bool → List Bool
times_generator [] = sixteen_zeros
times_generator (true ∷ quotient) = true ∷ added generator (times_generator quotient)
times_generator (false ∷ quotient) = false ∷ times_generator quotient

-- a list with zeros put in front of it
unfoldable pub raised : ℕ → List Bool → List Bool
raised zero rest = rest
raised (suc places) rest = false ∷ raised places rest

-- The rest is what remains of p after division by the generator: p is a multiple of the generator plus the rest,
-- which has sixteen coefficients. This is what the long division computes.
pub record IsRest (p rest : List Bool) : Type 0 where
  pub sixteen : length rest ≡ 16
  pub quotient : List Bool
  pub sum : p ≡ added (times_generator quotient) (raised (length quotient) rest)
