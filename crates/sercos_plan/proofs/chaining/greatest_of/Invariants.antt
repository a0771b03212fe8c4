use Rattle.std.proofs.Common.{◌≡◌, drop, max}
use Rattle.sercos_plan.specs.ChainOf.{greatest_of, time_of}
use Rattle.sercos_plan.proofs.chaining.greatest_of.Given as goal

abbrev pub invariant-loop-drive : goal.invariant-loop-drive
invariant-loop-drive l = max l.most (greatest_of (time_of l.time) (drop l.drive-index l.drives)) ≡ greatest_of (time_of l.time) l.drives
