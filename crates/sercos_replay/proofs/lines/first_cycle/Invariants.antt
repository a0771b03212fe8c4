use Rattle.std.proofs.Common.{◌≡◌, length}
use Rattle.sercos_answer.specs.Lines.{lines_of}
use Rattle.sercos_replay.specs.Replaying.{first_cycle}
use Rattle.sercos_replay.proofs.lines.first_cycle.Given as goal

abbrev pub invariant-loop-rest : goal.invariant-loop-rest
invariant-loop-rest l = first_cycle (lines_of l.rest) ≡ first_cycle (lines_of l.text)

abbrev pub decreases-loop-rest : goal.decreases-loop-rest
decreases-loop-rest l = length l.rest
