-- The first value of two, where one of them is known.
use Rattle.std.proofs.Common.{◌≡◌, Option, Some, None, refl}
use Rattle.std.specs.Option.{option_or}

pub option_or-none : {T : Type 0} (o : Option T) → option_or o None ≡ o
option_or-none None = refl
option_or-none (Some x) = refl

pub option_or-some : {T : Type 0} (o p : Option T) (x : T) → o ≡ Some x → option_or o p ≡ Some x
option_or-some None p x there = cc
option_or-some (Some y) p x there = there
