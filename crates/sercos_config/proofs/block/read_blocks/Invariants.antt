use Rattle.std.proofs.Common.{◌≡◌, true, None, [], map, drop, length}
use Rattle.std.specs.List.{list_all}
use Rattle.toml.specs.View.{table_view}
use Rattle.sercos_block.specs.Rules.{blocks_fault}
use Rattle.sercos_block.specs.Stores.{is_typed}
use Rattle.sercos_config.specs.Block.{blocks_onto}
use Rattle.sercos_config.proofs.block.read_blocks.Given as goal

abbrev pub invariant-loop-table : goal.invariant-loop-table
invariant-loop-table l =
    (blocks_fault [] l.blocks.items ≡ None)
    × (list_all is_typed l.blocks.items ≡ true)
    × (length l.blocks.items ≡ l.table-index)
    × (blocks_onto l.drive l.blocks.items (map (λ t. table_view t.now) (drop l.table-index l.tables)) ≡ blocks_onto l.drive [] (map (λ t. table_view t.now) l.tables))
