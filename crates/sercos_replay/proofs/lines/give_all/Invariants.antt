use Rattle.std.proofs.Common.{length}
use Rattle.sercos_replay.proofs.LineLemmas.{Giving}
use Rattle.sercos_replay.proofs.lines.give_all.Given as goal

abbrev pub invariant-loop-rest : goal.invariant-loop-rest
invariant-loop-rest l = Giving l.initial.replay l.replay l.cycles l.rest l.text

abbrev pub decreases-loop-rest : goal.decreases-loop-rest
decreases-loop-rest l = length l.rest
