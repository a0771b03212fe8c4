use Rattle.std.proofs.Common.{◌≡◌, drop}
use Rattle.sercos_plan.specs.ChainOf.{first_with, time_of}
use Rattle.sercos_plan.proofs.chaining.first_with.Given as goal

abbrev pub invariant-loop-drive : goal.invariant-loop-drive
invariant-loop-drive l = first_with (time_of l.time) l.value (drop l.drive-index l.drives) ≡ first_with (time_of l.time) l.value l.drives
