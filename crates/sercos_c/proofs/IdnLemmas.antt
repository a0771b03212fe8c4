-- The text of an identifier number is UTF-8.
use Rattle.std.proofs.Common.{rules, ◌≡◌, ℕ, ◌<◌, ◌⊎◌, inl, inr, List, [], ◌∷◌, get_or, None, sym, subst, arith}
use Rattle.std.specs.Str.{IsAscii, IsUtf8}
use Rattle.std.proofs.lemmas.Str.{IsUtf8-from_ascii}
use Rattle.std.proofs.lemmas.Str.Ascii.{IsAscii-from_all}
use Rattle.sercos_idn.specs.Idns.{idn_fault}
use Rattle.sercos_idn.proofs.IdnLemmas.{IsSpelled, IsSpelled-idn_fault, eight}

ascii_eight : (a b c d e f g h : ℕ) → a < 128 → b < 128 → c < 128 → d < 128 → e < 128 → f < 128 → g < 128 → h < 128 → IsAscii (a ∷ b ∷ c ∷ d ∷ e ∷ f ∷ g ∷ h ∷ [])
ascii_eight a b c d e f g h a_in b_in c_in d_in e_in f_in g_in h_in =
    IsAscii-from_all (a ∷ b ∷ c ∷ d ∷ e ∷ f ∷ g ∷ h ∷ []) (search rules)

ascii : (text : List ℕ) → IsSpelled text → IsAscii text
ascii text is =
    subst IsAscii (sym (eight text is.form.all))
    (ascii_eight (get_or text 0 0) (get_or text 1 0) (get_or text 2 0) (get_or text 3 0) (get_or text 4 0) (get_or text 5 0) (get_or text 6 0) (get_or text 7 0)
    (letter_low (get_or text 0 0) is.form.letter) (omega (arith, is.form.first_dash)) (omega (arith, is.form.set_high)) (omega (arith, is.form.second_dash))
    (omega (arith, is.form.thousands_high)) (omega (arith, is.form.hundreds_high)) (omega (arith, is.form.tens_high)) (omega (arith, is.form.ones_high)))
  where
    letter_low : (byte : ℕ) → (byte ≡ 83) ⊎ (byte ≡ 80) → byte < 128
    letter_low byte (inl is) = omega arith
    letter_low byte (inr is) = omega arith

pub utf8_text : (text : List ℕ) → idn_fault text ≡ None → IsUtf8 text
utf8_text text none = IsUtf8-from_ascii text (ascii text (IsSpelled-idn_fault text none))
