-- The first of two, and what is told of a place.
use Rattle.std.proofs.Common.{◌≡◌, Option, Some, None, refl, ap}
use Rattle.std.specs.Option.{option_or}

pub or-none : {A : Type 0} (a b : Option A) → a ≡ None → option_or a b ≡ b
or-none a b none = ap (λ o. option_or o b) none

-- where the first of two is told later too
pub or-stays : {A : Type 0} (a b c : Option A) (x : A) → (b ≡ Some x → c ≡ Some x) → option_or a b ≡ Some x → option_or a c ≡ Some x
or-stays None b c x stays told = stays told
or-stays (Some y) b c x stays told = told
