use Rattle.std.proofs.Common.{◌-◌}
use Rattle.sercos_margin.proofs.MarginLemmas.{IsCycleBetween}
use Rattle.sercos_margin.proofs.margins.least_multiple.Given as goal

abbrev pub invariant-loop-low : goal.invariant-loop-low
invariant-loop-low l = IsCycleBetween l.w l.low l.high

abbrev pub decreases-loop-low : goal.decreases-loop-low
decreases-loop-low l = l.high - l.low
