-- The words that write bytes to an element, by place.
use Rattle.std.proofs.Common.{◌≡◌, ℕ, zero, suc, ◌+◌, ◌-◌, ◌*◌, ◌/◌, ◌<◌, ◌≤◌, true, List, [], ◌∷◌, length, refl, sym, arith, max}
use Rattle.std.specs.Prelude.{Some, slice_get, slice_index, nat_le}
use Rattle.std.proofs.lemmas.List.{get_or_past}
use Rattle.sercos_step.specs.declared.shape.Shape.{Shape}
use Rattle.sercos_step.specs.declared.shape.Shape.TheVariants as shape
use Rattle.sercos_step.specs.Words.{words_of, at_least_one, words_told}
use Rattle.sercos_step.specs.Steps.{a_step, run}
use Rattle.sercos_step.proofs.Flags.{last_by}
use Rattle.sercos_step.proofs.Runs.{run_at}

pub words_of-at : (bytes : List ℕ) (k : ℕ) → slice_index bytes (2 * k) + 256 * slice_index bytes (2 * k + 1) ≡ slice_index (words_of bytes) k
words_of-at [] k = refl
words_of-at (x ∷ []) zero = omega arith
words_of-at (x ∷ []) (suc k) =
    let p : slice_index (x ∷ []) (2 * suc k) ≡ 0 = get_or_past (x ∷ []) (2 * suc k) 0 (omega arith) in
    let q : slice_index (x ∷ []) (2 * suc k + 1) ≡ 0 = get_or_past (x ∷ []) (2 * suc k + 1) 0 (omega arith) in rw (p, q) refl
words_of-at (x ∷ y ∷ bytes) zero = refl
words_of-at (x ∷ y ∷ bytes) (suc k) =
    let e : 2 * suc k ≡ suc (suc (2 * k)) = omega arith in
    let f : 2 * suc k + 1 ≡ suc (suc (2 * k + 1)) = omega arith in rw (f, e) (words_of-at bytes k)

pub length-words_of : (bytes : List ℕ) → (length bytes + 1) / 2 ≡ length (words_of bytes)
length-words_of [] = refl
length-words_of (x ∷ []) = refl
length-words_of (x ∷ y ∷ bytes) = let i = length-words_of bytes in omega (arith, i)

pub length-at_least_one : (words : List ℕ) → max (length words) 1 ≡ length (at_least_one words)
length-at_least_one [] = refl
length-at_least_one (w ∷ words) = omega arith

-- how many words there are: of a list, and of a value
pub length-told_list : (bytes : List ℕ) → 2 + (length bytes + 1) / 2 ≡ length (words_told shape.List bytes)
length-told_list bytes = let i = length-words_of bytes in omega (arith, i)

pub length-told_value : (s : Shape) (bytes : List ℕ) → (s ≡ shape.List → ⊥) → max ((length bytes + 1) / 2) 1 ≡ length (words_told s bytes)
length-told_value shape.One bytes n = rw (length-words_of bytes) (length-at_least_one (words_of bytes))
length-told_value shape.Two bytes n = rw (length-words_of bytes) (length-at_least_one (words_of bytes))
length-told_value shape.List bytes n = absurd (n refl)

pub few_told : (s : Shape) (bytes : List ℕ) → length bytes ≤ 1024 → length (words_told s bytes) ≤ 514
few_told shape.One bytes h = rw (← length-at_least_one (words_of bytes), ← length-words_of bytes) (omega arith)
few_told shape.Two bytes h = rw (← length-at_least_one (words_of bytes), ← length-words_of bytes) (omega arith)
few_told shape.List bytes h = rw (← length-told_list bytes) (omega arith)

pub some_told : (s : Shape) (bytes : List ℕ) → 0 < length (words_told s bytes)
some_told shape.One bytes = rw (← length-at_least_one (words_of bytes)) (omega arith)
some_told shape.Two bytes = rw (← length-at_least_one (words_of bytes)) (omega arith)
some_told shape.List bytes = omega arith

pub writing_at : (words : List ℕ) (e k n word : ℕ) → n ≡ length words → (k < length words → word ≡ slice_index words k) → k < length words →
    Some (a_step true (nat_le (n - 1) k) e word) ≡ slice_get (run true e words) k
writing_at words e k n word m i h = rw (m, i h, last_by (length words) k h) (sym (run_at true e words k h))
