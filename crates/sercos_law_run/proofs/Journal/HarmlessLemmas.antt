-- Cuts are harmless, since no frame begins another one.
use Rattle.sercos_law_run.proofs.Words.{◌≡◌, Bool, List, [], ◌∷◌, ◌++◌, Option, Some, None, option_and_then, refl, sym, ◌∙◌, ap, subst, append_assoc, append-nil, IfSome, reason_of, no_longer_frame, IsFrame-reason_none, Carry, IsCut, OnlyCuts, BothAreHarmless, CutsAreHarmless, IsHarmlessAfterCuts, QuietIsHarmless}

-- bits that are a frame and begin one are that one
same_frame : (bits rest : List Bool) → reason_of bits ≡ None → reason_of (bits ++ rest) ≡ None → rest ≡ []
same_frame bits rest one whole = (no_longer_frame _ _ bits rest (IsFrame-reason_none bits one) (IsFrame-reason_none (bits ++ rest) whole)).0

-- a frame that is the beginning of bits that begin a frame is these bits
uncut : (left more rest : List Bool) → reason_of left ≡ None → reason_of ((left ++ more) ++ rest) ≡ None → left ≡ left ++ more
uncut left more rest one whole = by more (same_frame left (more ++ rest) one (subst (λ (l : List Bool). reason_of l ≡ None) (append_assoc left more rest) whole))
  where
    by : (more : List Bool) → more ++ rest ≡ [] → left ≡ left ++ more
    by [] none = sym (append-nil left)
    by (bit ∷ more) none = cc

after_cuts : (carry : Carry) → OnlyCuts carry → IsHarmlessAfterCuts carry
after_cuts carry cuts p bits rest whole = by (carry p bits) (cuts p bits)
  where
    by : (o : Option (List Bool)) → IsCut bits o → IfSome o (λ came. reason_of came ≡ None → came ≡ bits)
    by None cut = tt
    by (Some left) (more, is) = λ one. uncut left more rest one (subst (λ (l : List Bool). reason_of (l ++ rest) ≡ None) is whole) ∙ sym is

pub cuts_are_harmless : CutsAreHarmless
cuts_are_harmless carry cuts = (λ p bits whole. after_cuts carry cuts p bits [] (subst (λ (l : List Bool). reason_of l ≡ None) (sym (append-nil bits)) whole), after_cuts carry cuts)

pub quiet_is_harmless : QuietIsHarmless
quiet_is_harmless carry quiet p bits rest whole =
    subst (λ (o : Option (List Bool)). IfSome o (λ came. reason_of came ≡ None → came ≡ bits)) (sym (quiet p.cycle p.kind p.from p bits refl refl refl)) (λ one. refl)

pub both_are_harmless : BothAreHarmless
both_are_harmless first second cuts harmless p bits whole = by (first p bits) (cuts p bits)
  where
    on : (left : List Bool) → (reason_of left ≡ None → left ≡ bits) → (o : Option (List Bool)) → IfSome o (λ came. reason_of came ≡ None → came ≡ left) → IfSome o (λ came. reason_of came ≡ None → came ≡ bits)
    on left same None is = tt
    on left same (Some came) is = λ one. is one ∙ same (subst (λ (l : List Bool). reason_of l ≡ None) (is one) one)

    by : (o : Option (List Bool)) → IsCut bits o → IfSome (option_and_then (λ came. second p came) o) (λ came. reason_of came ≡ None → came ≡ bits)
    by None cut = tt
    by (Some left) (more, is) =
        let longer : reason_of (left ++ more) ≡ None = subst (λ (l : List Bool). reason_of l ≡ None) is whole in
        on left (λ one. sym (is ∙ ap (λ (l : List Bool). left ++ l) (same_frame left more one longer) ∙ append-nil left)) (second p left) (harmless p left more longer)
