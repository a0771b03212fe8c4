use Rattle.std.proofs.Common.{◌-◌, ◌≤◌, length}
use Rattle.sercos_multi.proofs.DivideLemmas.{IsCounted}
use Rattle.sercos_multi.proofs.divided.count_parts.Given as goal

abbrev pub invariant-loop-at : goal.invariant-loop-at
invariant-loop-at l = record { counted : IsCounted l.text l.at l.count; within : l.at ≤ length l.text }

abbrev pub decreases-loop-at : goal.decreases-loop-at
decreases-loop-at l = length l.text - l.at
