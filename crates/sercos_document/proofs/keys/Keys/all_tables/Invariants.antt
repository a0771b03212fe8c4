use Rattle.std.proofs.Common.{◌≡◌, [], map, drop}
use Rattle.toml.specs.View.{table_view, items_view}
use Rattle.sercos_document.specs.Paths.{path}
use Rattle.sercos_document.specs.Lists.{tables_onto}
use Rattle.sercos_document.proofs.keys.Keys.all_tables.Given as goal

abbrev pub invariant-loop-item : goal.invariant-loop-item
invariant-loop-item l =
    let p = path l.self.place l.key in
    tables_onto p (map (λ t. table_view t.now) l.tables.items) (items_view (drop l.item-index l.list)) ≡ tables_onto p [] (items_view l.list)
