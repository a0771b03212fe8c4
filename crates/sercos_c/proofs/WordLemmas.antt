-- The words of a text, one after the other.
use Rattle.std.proofs.Common.{◌≡◌, ℕ, ◌<◌, List, [], ◌∷◌, ◌++◌, length, refl, sym, ap, ◌∙◌, subst, append_assoc, append-nil, length-append, arith}
use Rattle.std.specs.Prelude.{slice_index_or}
use Rattle.std.specs.Str.{IsUtf8}
use Rattle.sercos_c.specs.Texts.{AreTexts}
use Rattle.sercos_answer.specs.Lines.{lines_of}

pub one_more : (all words now : List (List ℕ)) (line : List ℕ) (lines others : List (List ℕ)) → all ≡ words ++ lines → lines ≡ line ∷ others
    → now ≡ words ++ line ∷ [] → all ≡ now ++ others
one_more all words now line lines others is cut pushed =
    is ∙ ap (λ l. words ++ l) cut ∙ sym (ap (λ l. l ++ others) pushed ∙ append_assoc words (line ∷ []) others)

pub ended : (all words : List (List ℕ)) (rest : List ℕ) → all ≡ words ++ lines_of rest → length rest ≡ 0 → words ≡ all
unfolding lines_of
ended all words [] is none = sym (is ∙ append-nil words)
ended all words (byte ∷ rest) is none = absurd (omega arith)

-- what stands between two lists
seam : (words others : List (List ℕ)) (line d : List ℕ) → slice_index_or (words ++ line ∷ others) (length words) d ≡ line
seam [] others line d = refl
seam (word ∷ words) others line d = seam words others line d

pub no_texts : (all words : List (List ℕ)) (line : List ℕ) (lines others : List (List ℕ)) → all ≡ words ++ lines → lines ≡ line ∷ others
    → (IsUtf8 line → ⊥) → AreTexts all → ⊥
no_texts all words line lines others is cut bad texts =
    let here : all ≡ words ++ line ∷ others = is ∙ ap (λ l. words ++ l) cut in
    let whole : AreTexts (words ++ line ∷ others) = subst (λ (l : List (List ℕ)). AreTexts l) here texts in
    let within : length words < length (words ++ line ∷ others) = omega (arith, length-append words (line ∷ others)) in
    bad (subst (λ (w : List ℕ). IsUtf8 w) (seam words others line line) (whole (length words) line within))
