use Rattle.std.proofs.Common.{◌≡◌, [], drop}
use Rattle.toml.specs.Data.{as_integer}
use Rattle.toml.specs.View.{items_view}
use Rattle.sercos_document.specs.Lists.{all_onto}
use Rattle.sercos_document.proofs.keys.Keys.numbers.Given as goal

abbrev pub invariant-loop-item : goal.invariant-loop-item
invariant-loop-item l =
    all_onto as_integer l.self.place l.key l.numbers.items (items_view (drop l.item-index l.list)) ≡ all_onto as_integer l.self.place l.key [] (items_view l.list)
