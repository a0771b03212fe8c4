-- Lists that are written item by item.
use Rattle.std.proofs.Common.{◌≡◌, ℕ, ◌+◌, ◌<◌, ◌≤◌, List, [], ◌∷◌, ◌++◌, length, map, take, get_or, sym, ap, ◌∙◌}
use Rattle.std.proofs.Math.ListN.{set}
use Rattle.std.proofs.lemmas.List.{take_more_set, take_more, take_all, map-append}

pub written_more : {X Y : Type 0} (f : X → Y) (xs : List X) (ys : List Y) (i : ℕ) (x : X) (d : Y) → i < length xs → i < length ys → f x ≡ get_or ys i d → map f (take i xs) ≡ take i ys
    → map f (take (i + 1) (set xs i x)) ≡ take (i + 1) ys
written_more {X} {Y} f xs ys i x d within there is before =
    ap (map f) (take_more_set xs i x within) ∙ map-append f (take i xs) (x ∷ []) ∙ ap (λ (front : List Y). front ++ f x ∷ []) before
    ∙ ap (λ (y : Y). take i ys ++ y ∷ []) is ∙ sym (take_more ys i d there)

pub written_all : {X Y : Type 0} (f : X → Y) (xs : List X) (ys : List Y) (i : ℕ) → length xs ≤ i → length ys ≤ i → map f (take i xs) ≡ take i ys → map f xs ≡ ys
written_all {X} {Y} f xs ys i past over before = ap (map f) (sym (take_all i xs past)) ∙ before ∙ take_all i ys over
