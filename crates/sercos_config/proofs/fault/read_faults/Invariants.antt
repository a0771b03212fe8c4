use Rattle.std.proofs.Common.{◌≡◌, ◌≤◌, [], map, drop}
use Rattle.std.specs.List.{All}
use Rattle.toml.specs.View.{table_view}
use Rattle.sercos_config.specs.Fault.{faults_onto}
use Rattle.sercos_config.proofs.fault.read_faults.Given as goal

abbrev pub invariant-loop-table : goal.invariant-loop-table
invariant-loop-table l =
    All (λ f. 1 ≤ f.every) l.faults.items
    × (faults_onto l.drives l.faults.items (map (λ t. table_view t.now) (drop l.table-index l.tables)) ≡ faults_onto l.drives [] (map (λ t. table_view t.now) l.tables))
