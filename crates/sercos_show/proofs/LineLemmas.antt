-- Lemmas on the lines of `show`.
use Rattle.std.proofs.Common.{◌≡◌, ℕ, ◌+◌, List, [], ◌∷◌, length, drop, refl, arith, nat_eq}
use Rattle.std.proofs.lemmas.List.{drop_all}
use Rattle.std.specs.List.{common_prefix_len}

pub common_prefix_len-nil : (xs : List ℕ) → common_prefix_len nat_eq xs [] ≡ 0
common_prefix_len-nil [] = refl
common_prefix_len-nil (x ∷ xs) = refl

-- all bytes of a text are shared
pub shared-end : (line text : List ℕ) (place : ℕ) → place ≡ length text → place + common_prefix_len nat_eq (drop place line) (drop place text) ≡ common_prefix_len nat_eq line text → length text ≡ common_prefix_len nat_eq line text
shared-end line text place end so_far =
    let none : drop place text ≡ [] = drop_all place text (omega arith) in
    let rest = rw none at so_far in
    omega (arith, rest, common_prefix_len-nil (drop place line))
