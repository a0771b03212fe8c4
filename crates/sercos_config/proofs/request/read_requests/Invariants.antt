use Rattle.std.proofs.Common.{◌≡◌, [], map, drop, length}
use Rattle.std.specs.List.{All}
use Rattle.toml.specs.View.{table_view}
use Rattle.sercos_block.specs.Rings.{has_address, has_other_data}
use Rattle.sercos_step.specs.Jobs.{IsJob}
use Rattle.sercos_step.specs.Steps.{AreTypedJobs}
use Rattle.sercos_config.specs.Request.{requests_onto}
use Rattle.sercos_config.proofs.request.read_requests.Given as goal

abbrev pub invariant-loop-table : goal.invariant-loop-table
invariant-loop-table l =
    All (IsJob (λ address. has_address address l.drives) (λ address raw. has_other_data address raw l.drives)) l.jobs.items
    × AreTypedJobs l.jobs.items
    × (length l.jobs.items ≡ l.table-index)
    × (requests_onto l.drives l.jobs.items (map (λ t. table_view t.now) (drop l.table-index l.tables)) ≡ requests_onto l.drives [] (map (λ t. table_view t.now) l.tables))
