use Rattle.std.proofs.Common.{◌≡◌, take}
use Rattle.sercos_timing.proofs.fitting.widened.Given as goal

abbrev pub invariant-loop-time : goal.invariant-loop-time
invariant-loop-time l = l.wide.items ≡ take l.time-index l.times
