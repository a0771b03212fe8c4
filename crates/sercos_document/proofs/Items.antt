-- The items of a list.
use Rattle.std.proofs.Common.{◌≡◌, List, [], ◌∷◌, length, arith, refl}
use Rattle.toml.specs.declared.value.Value.{Value}
use Rattle.toml.specs.View.{items_view}
use Rattle.sercos_document.specs.Lists.{count_of}

pub items_count : (vs : List Value) → count_of (items_view vs) ≡ length vs
unfolding count_of
items_count [] = refl
items_count (v ∷ vs) = omega (arith, items_count vs)
