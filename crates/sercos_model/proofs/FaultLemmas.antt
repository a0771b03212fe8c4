-- Where no rule of a chain finds a fault.
use Rattle.std.proofs.Common.{◌≡◌, ℕ, ◌≤◌, Bool, true, false, nat_lt, Option, Some, None, refl, arith}
use Rattle.std.specs.Bool.{then_some}
use Rattle.std.specs.Option.{option_or, option_map}
use Rattle.std.proofs.lemmas.Bool.Decides.{nat_tests}

-- no fault of two parts is none of either
pub none_of-or : {T : Type 0} (o p : Option T) → option_or o p ≡ None → (o ≡ None) × (p ≡ None)
none_of-or None p none = (refl, none)
none_of-or (Some x) p none = cc

pub none_of-then : {T : Type 0} (test : Bool) (x : T) → then_some test x ≡ None → test ≡ false
none_of-then true x none = cc
none_of-then false x none = refl

pub none_of-map : (f : ℕ → ℕ) (o : Option ℕ) → option_map f o ≡ None → o ≡ None
none_of-map f None none = refl
none_of-map f (Some place) none = cc

-- what a test that fails says, and when it fails
pub at_least : (a b : ℕ) → nat_lt a b ≡ false → b ≤ a
at_least a b fails = grind (arith, nat_tests)

pub nat_lt-at_least : (a b : ℕ) → b ≤ a → nat_lt a b ≡ false
nat_lt-at_least a b most = grind (arith, nat_tests)
