use Rattle.std.proofs.Common.{◌≡◌, [], map, drop, length}
use Rattle.toml.specs.Data.{as_str}
use Rattle.toml.specs.View.{items_view}
use Rattle.sercos_document.specs.Lists.{all_onto}
use Rattle.sercos_document.proofs.keys.Keys.texts.Given as goal

abbrev pub invariant-loop-item : goal.invariant-loop-item
invariant-loop-item l =
    (length l.texts.items ≡ l.item-index)
    × (all_onto as_str l.self.place l.key (map (λ t. t.now) l.texts.items) (items_view (drop l.item-index l.list)) ≡ all_onto as_str l.self.place l.key [] (items_view l.list))
