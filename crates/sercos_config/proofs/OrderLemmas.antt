-- Orders of drives.
use Rattle.std.proofs.Common.{◌≡◌, ℕ, zero, suc, ◌+◌, ◌<◌, ◌≤◌, ◌==◌, nat_lt, Bool, true, false, ◌||◌, List, [], ◌∷◌, ◌++◌, length, refl, ◌∙◌, append_assoc, append-nil, add-one, arith}
use Rattle.std.proofs.lemmas.Bool.{and_parts}
use Rattle.std.proofs.lemmas.Bool.Decides.{nat_tests}
use Rattle.std.proofs.lemmas.List.{length-append}
use Rattle.std.specs.List.{list_any}
use Rattle.sercos_block.specs.Rings.{is_turn, are_turns, is_order}
use Rattle.sercos_config.specs.Ring.{places_below}

pub places_more : (n : ℕ) → places_below (n + 1) ≡ places_below n ++ n ∷ []
unfolding places_below
places_more n = rw add-one refl

-- one drive more
are_turns-append : (drives : ℕ) (before xs : List ℕ) (place : ℕ) → are_turns drives before xs ≡ true → is_turn drives (before ++ xs) place ≡ true
    → are_turns drives before (xs ++ place ∷ []) ≡ true
unfolding are_turns
are_turns-append drives before [] place h k = let first = rw append-nil at k in rw first refl
are_turns-append drives before (x ∷ xs) place h k =
    let (here, more) = and_parts (is_turn drives before x) (are_turns drives (before ++ x ∷ []) xs) h in
    rw (here, are_turns-append drives (before ++ x ∷ []) xs place more (rw append_assoc k)) refl

-- the order so far, and one drive more
pub turns_none : (drives : ℕ) → are_turns drives [] [] ≡ true
unfolding are_turns
turns_none drives = refl

pub turns_more : (drives : ℕ) (xs : List ℕ) (place : ℕ) → are_turns drives [] xs ≡ true → is_turn drives xs place ≡ true → are_turns drives [] (xs ++ place ∷ []) ≡ true
turns_more drives xs place h k = are_turns-append drives [] xs place h k

-- no place below a number is that number or one above it
any-append : (k : ℕ) (xs : List ℕ) (x : ℕ) → list_any (λ j. j == k) xs ≡ false → x < k → list_any (λ j. j == k) (xs ++ x ∷ []) ≡ false
any-append k [] x h below = grind (arith, nat_tests)
any-append k (y ∷ xs) x h below = or_false (y == k) _ (left (y == k) _ h) (any-append k xs x (right (y == k) _ h) below)
  where
    left : (a b : Bool) → (a || b) ≡ false → a ≡ false
    left true b h = h
    left false b h = refl

    right : (a b : Bool) → (a || b) ≡ false → b ≡ false
    right true b h = cc
    right false b h = h

    or_false : (a b : Bool) → a ≡ false → b ≡ false → (a || b) ≡ false
    or_false a b h k = rw (h, k) refl

not_among : (n k : ℕ) → n ≤ k → list_any (λ j. j == k) (places_below n) ≡ false
unfolding places_below
not_among zero k h = refl
not_among (suc n) k h = any-append k (places_below n) n (not_among n k (omega arith)) (omega arith)

turn_below : (drives n : ℕ) → n < drives → is_turn drives (places_below n) n ≡ true
unfolding is_turn
turn_below drives n h =
    let within : nat_lt n drives ≡ true = grind (arith, nat_tests) in
    rw (within, not_among n n (omega arith)) refl

all_turns : (drives n : ℕ) → n ≤ drives → are_turns drives [] (places_below n) ≡ true
unfolding places_below are_turns
all_turns drives zero h = refl
all_turns drives (suc n) h = are_turns-append drives [] (places_below n) n (all_turns drives n (omega arith)) (turn_below drives n (omega arith))

length-places : (n : ℕ) → length (places_below n) ≡ n
unfolding places_below
length-places zero = refl
length-places (suc n) = length-append (places_below n) (n ∷ []) ∙ (let e = length-places n in omega (arith, e))

pub is_order_places : (n : ℕ) → is_order n (places_below n) ≡ true
unfolding is_order
is_order_places n =
    let count : (length (places_below n) == n) ≡ true = let e = length-places n in grind (arith, nat_tests, e) in
    rw (count, all_turns n n (omega arith)) refl
