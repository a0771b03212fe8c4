-- What was written reads back.
use Rattle.std.proofs.Common.{◌≡◌, ℕ, ◌+◌, ◌*◌, ◌%◌, ◌/◌, ◌<◌, ◌≤◌, List, [], ◌∷◌, length, take, min, refl, ap, arith}
use Rattle.sercos_model.specs.Bits.{AreBytes}
use Rattle.sercos_step.specs.declared.shape.Shape.{Shape}
use Rattle.sercos_step.specs.declared.shape.Shape.TheVariants as shape
use Rattle.sercos_step.specs.Words.{words_of, bytes_in, at_least_one, words_told, bytes_read}

pub low_back : (low high : ℕ) → low < 256 → (low + 256 * high) % 256 ≡ low
low_back low high h = omega arith

pub high_back : (low high : ℕ) → low < 256 → (low + 256 * high) / 256 ≡ high
high_back low high h = omega arith

pub bytes_back : (bytes : List ℕ) → AreBytes bytes → take (length bytes) (bytes_in (words_of bytes)) ≡ bytes
unfolding AreBytes
bytes_back [] are = refl
bytes_back (x ∷ []) are = let e : x % 256 ≡ x = omega (arith, are.0) in rw e refl
bytes_back (x ∷ y ∷ bytes) are = rw (low_back x y are.0, high_back x y are.0) (ap (λ (l : List ℕ). x ∷ y ∷ l) (bytes_back bytes are.1.1))

pub list_back : (bytes : List ℕ) → AreBytes bytes → length bytes ≤ 1024 → bytes_read shape.List (words_told shape.List bytes) ≡ bytes
list_back bytes are fits = let m : min (length bytes) 1024 ≡ length bytes = omega arith in rw m (bytes_back bytes are)

pairs_back : (bytes : List ℕ) → AreBytes bytes → length bytes % 2 ≡ 0 → bytes_in (words_of bytes) ≡ bytes
unfolding AreBytes
pairs_back [] are even = refl
pairs_back (x ∷ []) are even = absurd (omega arith)
pairs_back (x ∷ y ∷ bytes) are even = rw (low_back x y are.0, high_back x y are.0) (ap (λ (l : List ℕ). x ∷ y ∷ l) (pairs_back bytes are.1.1 (omega arith)))

some_back : (bytes : List ℕ) → 0 < length bytes → at_least_one (words_of bytes) ≡ words_of bytes
some_back [] some = absurd (omega arith)
some_back (x ∷ []) some = refl
some_back (x ∷ y ∷ bytes) some = refl

pub value_back : (s : Shape) (bytes : List ℕ) → (s ≡ shape.List → ⊥) → AreBytes bytes → length bytes % 2 ≡ 0 → 0 < length bytes → bytes_read s (words_told s bytes) ≡ bytes
value_back shape.One bytes n are even some = rw (some_back bytes some) (pairs_back bytes are even)
value_back shape.Two bytes n are even some = rw (some_back bytes some) (pairs_back bytes are even)
value_back shape.List bytes n are even some = absurd (n refl)
