use Rattle.std.proofs.Common.{◌-◌}
use Rattle.sercos_margin.specs.Margins.{IsBetween}
use Rattle.sercos_margin.proofs.margins.margin_between.Given as goal

abbrev pub invariant-loop-low : goal.invariant-loop-low
invariant-loop-low l = IsBetween l.w l.index l.t l.low l.high

abbrev pub decreases-loop-low : goal.decreases-loop-low
decreases-loop-low l = l.high - l.low
