use Rattle.std.proofs.Common.{◌≡◌, ◌≤◌, ◌+◌, ◌*◌, drop}
use Rattle.std.specs.List.{sum_by}
use Rattle.sercos_block.specs.Startup.{startup_of}
use Rattle.sercos_config.proofs.generated.startup_of_all.Given as goal

abbrev pub invariant-loop-drive : goal.invariant-loop-drive
invariant-loop-drive l = (l.cycles + sum_by startup_of (drop l.drive-index l.drives) ≡ sum_by startup_of l.drives) × (l.cycles ≤ 33738960 * l.drive-index)
