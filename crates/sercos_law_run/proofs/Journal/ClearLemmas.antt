-- Where no arrival is unseen, a station hears what was sent, or nothing.
use Rattle.sercos_law_run.proofs.Words.{◌≡◌, inl, inr, ◌⊎◌, ℕ, zero, suc, ◌<◌, Bool, true, false, List, [], ◌∷◌, Option, Some, None, is_none, refl, sym, ◌∙◌, ap, arith, option_and_then, is_some, IfSome, reason_of, frame_of, Passage, arrival, heard, are_same, sum_below, Carry, IsQuiet, content_in, is_unseen, cases_Option, cases_Bool}

pub same_bits : (xs ys : List Bool) → are_same xs ys ≡ true → xs ≡ ys
same_bits [] [] same = refl
same_bits [] (y ∷ ys) same = cc
same_bits (x ∷ xs) [] same = cc
same_bits (true ∷ xs) (true ∷ ys) same = ap (λ (zs : List Bool). true ∷ zs) (same_bits xs ys same)
same_bits (true ∷ xs) (false ∷ ys) same = cc
same_bits (false ∷ xs) (true ∷ ys) same = cc
same_bits (false ∷ xs) (false ∷ ys) same = ap (λ (zs : List Bool). false ∷ zs) (same_bits xs ys same)

unread : (came : List Bool) (o : Bool) → is_none (reason_of came) ≡ o → o ≡ false → content_in came ≡ None
unfolding content_in
unread came o is no_frame = rw (is, no_frame) refl

pub heard-clear : (carry : Carry) (p : Passage) (content : List ℕ) → content_in (frame_of content) ≡ Some content
    → is_unseen (frame_of content) (arrival carry p content) ≡ false → (heard carry p content ≡ None) ⊎ (heard carry p content ≡ Some content)
unfolding is_unseen
heard-clear carry p content whole clear = elim (cases_Option (arrival carry p content)) [
  | inl none ↦ rw none (inl refl)
  | inr (came, some) ↦ rw some (elim (cases_Bool (are_same came (frame_of content))) [
    | inl is ↦ inr (rw (same_bits came (frame_of content) is) whole)
    | inr is ↦ let clear = rw is at (rw some at clear) in inl (unread came _ refl clear)
  ])
]

pub are_same-refl : (bits : List Bool) → are_same bits bits ≡ true
are_same-refl [] = refl
are_same-refl (true ∷ bits) = are_same-refl bits
are_same-refl (false ∷ bits) = are_same-refl bits

-- where a link changes nothing, what was said is heard
pub heard-quiet : (carry : Carry) (p : Passage) (content : List ℕ) → IsQuiet carry p.cycle p.kind p.from → content_in (frame_of content) ≡ Some content → Some content ≡ heard carry p content
heard-quiet carry p content quiet whole = sym (ap (λ (o : Option (List Bool)). option_and_then content_in o) (quiet p (frame_of content) refl refl refl) ∙ whole)

pub unseen-quiet : (carry : Carry) (p : Passage) (content : List ℕ) → IsQuiet carry p.cycle p.kind p.from → false ≡ is_unseen (frame_of content) (arrival carry p content)
unfolding is_unseen
unseen-quiet carry p content quiet = rw (quiet p (frame_of content) refl refl refl, are_same-refl (frame_of content)) refl

-- what arrives as it was sent has the content that was said
pub same_heard : (o : Option (List Bool)) (said content : List ℕ) (sent bits : List Bool) → content_in sent ≡ Some said → is_some o ≡ true
    → IfSome o (λ came. bits ≡ came) → are_same bits sent ≡ true → content ≡ said → Some content ≡ option_and_then content_in o
same_heard None said content sent bits whole some is same copied = cc
same_heard (Some came) said content sent bits whole some is same copied =
    ap (λ (c : List ℕ). Some c) copied ∙ sym whole ∙ ap content_in (sym (same_bits bits sent same) ∙ is)

-- a sum of which each part is 0
pub sum_none : (n : ℕ) (f : ℕ → ℕ) → ((k : ℕ) → k < n → f k ≡ 0) → sum_below n f ≡ 0
sum_none zero f none = refl
sum_none (suc n) f none = let rest = sum_none n f (λ k low. none k (omega (arith, low))) in let last = none n (omega arith) in omega (arith, rest, last)
