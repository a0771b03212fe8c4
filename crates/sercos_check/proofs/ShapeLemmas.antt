-- The head of a capture, line by line.
use Rattle.std.proofs.Common.{◌≡◌, ◌≤◌, Bool, true, false, List, length, Some, None, unwrap_or, refl, nat_lt, not, cond, arith}
use Rattle.std.specs.List.{position, position_or_len}
use Rattle.std.proofs.lemmas.Bool.Decides.{nat_tests}
use Rattle.std.proofs.lemmas.List.Sums.{prefix_len-le-length}

-- the first place that passes, or the length of the list
pub place_at : {X : Type 0} (p : X → Bool) (xs : List X) → unwrap_or (position p xs) (length xs) ≡ position_or_len p xs
place_at p xs = by (nat_lt (position_or_len p xs) (length xs)) refl
  where
    by : (in' : Bool) → nat_lt (position_or_len p xs) (length xs) ≡ in'
        → unwrap_or (cond in' (Some (position_or_len p xs)) None) (length xs) ≡ position_or_len p xs
    by true e = refl
    by false e =
        let most = prefix_len-le-length (λ x. not (p x)) xs in
        let least : length xs ≤ position_or_len p xs = grind (arith, nat_tests) in
        omega arith
