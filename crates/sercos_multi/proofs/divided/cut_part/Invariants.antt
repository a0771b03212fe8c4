use Rattle.std.proofs.Common.{◌-◌, ◌≤◌, length}
use Rattle.sercos_multi.proofs.DivideLemmas.{Cuts}
use Rattle.sercos_multi.proofs.divided.cut_part.Given as goal

abbrev pub invariant-loop-at : goal.invariant-loop-at
invariant-loop-at l = record { cuts : Cuts l.text l.at; within : l.at ≤ length l.text }

abbrev pub decreases-loop-at : goal.decreases-loop-at
decreases-loop-at l = length l.text - l.at
