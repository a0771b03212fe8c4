-- A search finds something where there is something.
use Rattle.std.proofs.Common.{◌≡◌, Bool, true, false, List, [], ◌∷◌, refl}
use Rattle.std.specs.Prelude.{Some, if◌then◌else◌, ◌||◌}
use Rattle.std.specs.Option.{is_some}
use Rattle.std.specs.List.{find, list_any}

pub is_found : {A : Type 0} (test : A → Bool) (xs : List A) → is_some (find test xs) ≡ list_any test xs
is_found test [] = refl
is_found test (x ∷ xs) = by (test x) (is_found test xs)
  where
    by : (is : Bool) → is_some (find test xs) ≡ list_any test xs → is_some (if is then Some x else find test xs) ≡ (is || list_any test xs)
    by true same = refl
    by false same = same
