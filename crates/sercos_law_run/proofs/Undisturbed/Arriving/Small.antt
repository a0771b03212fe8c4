-- Small facts on options, lists and tests.
use Rattle.sercos_law_run.proofs.Words.{◌≡◌, Bool, true, false, List, [], ◌∷◌, sym, ◌∙◌, false≢true}

pub first_is : {A : Type 0} (x y : A) (xs ys : List A) → x ∷ xs ≡ y ∷ ys → (x ≡ y) × (xs ≡ ys)
first_is x y xs ys e = (cc, cc)

pub nothing_there : {A : Type 0} (x : A) (xs : List A) → [] ≡ x ∷ xs → ⊥
nothing_there x xs e = cc

pub never_both : (b : Bool) → b ≡ true → b ≡ false → ⊥
never_both b on off = false≢true (sym off ∙ on)
