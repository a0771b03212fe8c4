use Rattle.std.proofs.Common.{◌≡◌, true, [], map, drop, length}
use Rattle.std.specs.List.{All}
use Rattle.toml.specs.View.{table_view}
use Rattle.sercos_block.specs.Rings.{are_drives}
use Rattle.sercos_block.specs.Stores.{IsTyped}
use Rattle.sercos_config.specs.Drive.{drives_onto}
use Rattle.sercos_config.proofs.drive.read_drives.Given as goal

abbrev pub invariant-loop-table : goal.invariant-loop-table
invariant-loop-table l =
    (are_drives [] l.drives.items ≡ true)
    × All IsTyped l.drives.items
    × (length l.drives.items ≡ l.table-index)
    × (drives_onto l.drives.items (map (λ t. table_view t.now) (drop l.table-index l.tables)) ≡ drives_onto [] (map (λ t. table_view t.now) l.tables))
