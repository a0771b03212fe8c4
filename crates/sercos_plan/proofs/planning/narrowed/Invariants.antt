use Rattle.std.proofs.Common.{◌≡◌, take}
use Rattle.sercos_plan.proofs.planning.narrowed.Given as goal

abbrev pub invariant-loop-time : goal.invariant-loop-time
invariant-loop-time l = l.narrow.items ≡ take l.time-index l.times
