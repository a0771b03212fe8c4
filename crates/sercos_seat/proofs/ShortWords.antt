-- The first words of bytes that are taken two by two.
use Rattle.std.proofs.Common.{◌≡◌, ℕ, List, [], ◌∷◌, drop, refl, arith}
use Rattle.std.specs.Prelude.{slice_index}
use Rattle.sercos_step.specs.Words.{words_of}
use Rattle.sercos_seat.specs.Agenda.{short_in}

pub first_short : (bytes : List ℕ) → slice_index (words_of bytes) 0 ≡ short_in bytes
first_short [] = refl
first_short (low ∷ []) = omega arith
first_short (low ∷ high ∷ bytes) = refl

pub second_short : (bytes : List ℕ) → slice_index (words_of bytes) 1 ≡ short_in (drop 2 bytes)
second_short [] = refl
second_short (low ∷ []) = omega arith
second_short (low ∷ high ∷ bytes) = first_short bytes
