-- The words in a form.
use Rattle.std.proofs.Common.{◌≡◌, ℕ, Bool, true, false, if◌then◌else◌, List, [], ◌∷◌, length, Option, Some, None, refl, ◌∙◌, ap, arith}
use Rattle.std.specs.Prelude.{codes, slice_get, is_none}
use Rattle.std.specs.Str.{bytes_eq}
use Rattle.std.proofs.lemmas.Option.{same_Some}
use Rattle.sercos_multi.specs.declared.words.Form.{Form}
use Rattle.sercos_multi.specs.Words.{form_of, run_form, without_dashes}

pub word_dashes : (a : List ℕ) → bytes_eq a (codes "--") ≡ true → form_of (a ∷ []) ≡ None
unfolding form_of without_dashes run_form
word_dashes a is = ap (λ (b : Bool). run_form (if b then [] else a ∷ [])) is

pub word_other : (a : List ℕ) → bytes_eq a (codes "--") ≡ false → form_of (a ∷ []) ≡ run_form (a ∷ [])
unfolding form_of without_dashes
word_other a is = ap (λ (b : Bool). run_form (if b then [] else a ∷ [])) is

pub pair_first : (a b : List ℕ) → bytes_eq a (codes "--") ≡ true → form_of (a ∷ b ∷ []) ≡ run_form (b ∷ [])
unfolding form_of without_dashes
pair_first a b is = ap (λ (x : Bool). run_form (if x then b ∷ [] else a ∷ (if bytes_eq b (codes "--") then [] else b ∷ []))) is

pub pair_second : (a b : List ℕ) → bytes_eq a (codes "--") ≡ false → bytes_eq b (codes "--") ≡ true → form_of (a ∷ b ∷ []) ≡ run_form (a ∷ [])
unfolding form_of without_dashes
pair_second a b is next = ap (λ (x : Bool). run_form (if x then b ∷ [] else a ∷ (if bytes_eq b (codes "--") then [] else b ∷ []))) is ∙ ap (λ (x : Bool). run_form (a ∷ (if x then [] else b ∷ []))) next

pub pair_other : (a b : List ℕ) → bytes_eq a (codes "--") ≡ false → bytes_eq b (codes "--") ≡ false → form_of (a ∷ b ∷ []) ≡ None
unfolding form_of without_dashes run_form
pair_other a b is next = ap (λ (x : Bool). run_form (if x then b ∷ [] else a ∷ (if bytes_eq b (codes "--") then [] else b ∷ []))) is ∙ ap (λ (x : Bool). run_form (a ∷ (if x then [] else b ∷ []))) next

pub one_word : (words : List (List ℕ)) (a : List ℕ) → length words ≡ 1 → slice_get words 0 ≡ Some a → words ≡ a ∷ []
one_word [] a len is = absurd (omega (arith, len))
one_word (x ∷ []) a len is = ap (λ w. w ∷ []) (same_Some _ _ is)
one_word (x ∷ y ∷ words) a len is = absurd (omega (arith, len))

pub two_words : (words : List (List ℕ)) (a b : List ℕ) → length words ≡ 2 → slice_get words 0 ≡ Some a → slice_get words 1 ≡ Some b → words ≡ a ∷ b ∷ []
two_words [] a b len is next = absurd (omega (arith, len))
two_words (x ∷ []) a b len is next = absurd (omega (arith, len))
two_words (x ∷ y ∷ []) a b len is next = ap (λ w. w ∷ y ∷ []) (same_Some _ _ is) ∙ ap (λ w. a ∷ w ∷ []) (same_Some _ _ next)
two_words (x ∷ y ∷ z ∷ words) a b len is next = absurd (omega (arith, len))

pub other_words : (words : List (List ℕ)) → (length words ≡ 1 → ⊥) → (length words ≡ 2 → ⊥) → form_of words ≡ None
unfolding form_of without_dashes run_form
other_words [] one two = refl
other_words (x ∷ []) one two = absurd (one refl)
other_words (x ∷ y ∷ []) one two = absurd (two refl)
other_words (x ∷ y ∷ z ∷ words) one two = by (bytes_eq x (codes "--")) (bytes_eq y (codes "--"))
  where
    by : (a b : Bool) → run_form (if a then y ∷ z ∷ words else x ∷ (if b then z ∷ words else y ∷ without_dashes (z ∷ words))) ≡ None
    by true b = refl
    by false true = refl
    by false false = refl

pub named : (form : Option Form) → is_none form ≡ false → (f : Form) × (form ≡ Some f)
named None is = absurd (cc)
named (Some f) is = (f, refl)

pub unnamed : (form : Option Form) → is_none form ≡ true → form ≡ None
unnamed None is = refl
unnamed (Some f) is = absurd (cc)
