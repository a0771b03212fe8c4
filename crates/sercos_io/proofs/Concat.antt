-- Texts in pieces.
use Rattle.std.proofs.Common.{◌≡◌, ℕ, zero, suc, ◌+◌, ◌<◌, List, [], ◌∷◌, ◌++◌, length, get_or, take, drop, map, refl, ap, sym, ◌∙◌, append_assoc, append-nil, Result, Ok, Err, OnErr, arith}
use Rattle.std.proofs.lemmas.List.{length-append}
use Rattle.std.specs.List.{concat}

suc_plus : (m n : ℕ) → suc m + n ≡ suc (m + n)
suc_plus m n = omega arith

-- one piece more
pub concat-next : {A : Type 0} (f : A → List ℕ) (xs : List A) (i : ℕ) (d : A) → i < length xs
    → concat (map f (take (i + 1) xs)) ≡ concat (map f (take i xs)) ++ f (get_or xs i d)
concat-next f [] i d h = absurd (omega arith)
concat-next f (x ∷ xs) zero d h = append-nil (f x)
concat-next f (x ∷ xs) (suc i) d h =
    rw (suc_plus i 1) (ap (λ t. f x ++ t) (concat-next f xs i d (omega arith)) ∙ sym (append_assoc (f x) (concat (map f (take i xs))) (f (get_or xs i d))))

-- the pieces before a place, the piece there, and those after it
pub concat-at : {A : Type 0} (f : A → List ℕ) (xs : List A) (i : ℕ) (d : A) → i < length xs
    → concat (map f xs) ≡ concat (map f (take i xs)) ++ (f (get_or xs i d) ++ concat (map f (drop (i + 1) xs)))
concat-at f [] i d h = absurd (omega arith)
concat-at f (x ∷ xs) zero d h = refl
concat-at f (x ∷ xs) (suc i) d h =
    rw (suc_plus i 1) (ap (λ t. f x ++ t) (concat-at f xs i d (omega arith)) ∙ sym (append_assoc (f x) (concat (map f (take i xs))) (f (get_or xs i d) ++ concat (map f (drop (i + 1) xs)))))

-- and as many bytes
pub length-concat-at : {A : Type 0} (f : A → List ℕ) (xs : List A) (i : ℕ) (d : A) → i < length xs
    → length (concat (map f xs)) ≡ length (concat (map f (take i xs))) + (length (f (get_or xs i d)) + length (concat (map f (drop (i + 1) xs))))
length-concat-at f xs i d h =
    ap length (concat-at f xs i d h) ∙ length-append (concat (map f (take i xs))) _
    ∙ ap (λ n. length (concat (map f (take i xs))) + n) (length-append (f (get_or xs i d)) _)

-- what holds after a failure
pub OnErr-always : {T E : Type 0} (r : Result T E) (P : Type 0) → P → OnErr r P
OnErr-always (Ok x) P h = tt
OnErr-always (Err e) P h = h
