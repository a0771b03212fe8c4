-- Lists of identifier numbers in bytes.
use Rattle.std.proofs.Common.{◌≡◌, ℕ, zero, suc, ◌+◌, ◌*◌, ◌<◌, ◌≤◌, List, [], ◌∷◌, ◌++◌, length, ap, arith, refl}
use Rattle.std.specs.Prelude.{take, slice_index}
use Rattle.sercos_idn.specs.declared.idn.Idn.{Idn}
use Rattle.sercos_seat.specs.Agenda.{idns_in}

abbrev idn_at : List ℕ → ℕ → Idn
idn_at bytes place = record { raw = slice_index bytes place + 256 * slice_index bytes (place + 1) }

-- one pair more
pub one_idn : (bytes : List ℕ) (i : ℕ) → 2 * i + 1 < length bytes → take (i + 1) (idns_in bytes) ≡ take i (idns_in bytes) ++ (record { raw = slice_index bytes (2 * i) + 256 * slice_index bytes (2 * i + 1) }) ∷ []
one_idn [] i h = absurd (omega (arith, h))
one_idn (b ∷ []) i h = absurd (omega (arith, h))
one_idn (low ∷ high ∷ bytes) zero h = refl
one_idn (low ∷ high ∷ bytes) (suc i) h =
    let e : 2 * suc i ≡ suc (suc (2 * i)) = omega arith in
    let f : suc i + 1 ≡ suc (i + 1) = omega arith in
    let g : suc (suc (2 * i)) + 1 ≡ suc (suc (2 * i + 1)) = omega arith in
    rw (f, e, g) (ap (λ xs. (record { raw = low + 256 * high }) ∷ xs) (one_idn bytes i (omega (arith, h))))

-- and none more
pub no_idn : (bytes : List ℕ) (i : ℕ) → length bytes ≤ 2 * i + 1 → take (i + 1) (idns_in bytes) ≡ take i (idns_in bytes)
no_idn [] zero h = refl
no_idn [] (suc i) h = let f : suc i + 1 ≡ suc (i + 1) = omega arith in rw f refl
no_idn (b ∷ []) zero h = refl
no_idn (b ∷ []) (suc i) h = let f : suc i + 1 ≡ suc (i + 1) = omega arith in rw f refl
no_idn (low ∷ high ∷ bytes) zero h = absurd (omega (arith, h))
no_idn (low ∷ high ∷ bytes) (suc i) h =
    let f : suc i + 1 ≡ suc (i + 1) = omega arith in
    rw f (ap (λ xs. (record { raw = low + 256 * high }) ∷ xs) (no_idn bytes i (omega (arith, h))))

pub idns_length : (bytes : List ℕ) (i : ℕ) → length (take i (idns_in bytes)) ≤ i
idns_length bytes zero = omega arith
idns_length [] (suc i) = omega arith
idns_length (b ∷ []) (suc i) = omega arith
idns_length (low ∷ high ∷ bytes) (suc i) = let h : length (take i (idns_in bytes)) ≤ i = idns_length bytes i in omega (arith, h)
