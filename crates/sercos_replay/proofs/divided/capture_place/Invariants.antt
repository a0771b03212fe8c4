use Rattle.std.proofs.Common.{length}
use Rattle.sercos_replay.proofs.DividedLemmas.{IsSought}
use Rattle.sercos_replay.proofs.divided.capture_place.Given as goal

abbrev pub invariant-loop-rest : goal.invariant-loop-rest
invariant-loop-rest l = IsSought l.rest l.text

abbrev pub decreases-loop-rest : goal.decreases-loop-rest
decreases-loop-rest l = length l.rest
