use Rattle.std.proofs.Common.{◌≡◌, ◌+◌, ◌++◌, drop, length}
use Rattle.sercos_timing.specs.Order.{record_bytes}
use Rattle.sercos_timing.specs.Inequalities.{positions}
use Rattle.sercos_plan.proofs.planning.positions.Given as goal

abbrev pub invariant-loop-drive : goal.invariant-loop-drive
invariant-loop-drive l = record {
  value : l.places.items ++ positions l.next (drop l.drive-index l.drives) ≡ positions 1 l.drives;
  count : length l.places.items ≡ l.drive-index;
  sum : l.next + record_bytes (drop l.drive-index l.drives) ≡ 1 + record_bytes l.drives;
}
