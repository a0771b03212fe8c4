use Rattle.std.proofs.Common.{length}
use Rattle.sercos_checking.proofs.CheckingLemmas.{Taking}
use Rattle.sercos_checking.proofs.capture.verdict.Given as goal

abbrev pub invariant-loop-rest : goal.invariant-loop-rest
invariant-loop-rest l = Taking l.shape l.rules l.number l.rest l.text

abbrev pub decreases-loop-rest : goal.decreases-loop-rest
decreases-loop-rest l = length l.rest
