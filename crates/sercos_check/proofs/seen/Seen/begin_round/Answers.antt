use Rattle.std.proofs.Common.{arith}
use Rattle.sercos_check.proofs.RoundLemmas.{none_heard, none_marked}
use Rattle.sercos_check.proofs.seen.Seen.begin_round.Goals as goal

pub returns-then-self-lt255-clause-heard : goal.returns-then-self-lt255-clause-heard
returns-then-self-lt255-clause-heard c = none_heard c.self.inside.round _ c.self.inside.heard (omega arith) c.self.invariant.2

pub returns-then-self-lt255-clause-marks : goal.returns-then-self-lt255-clause-marks
returns-then-self-lt255-clause-marks c = none_marked c.self.inside.round _ c.self.inside.marks (omega arith) c.self.invariant.3

pub returns-else-self-lt255-clause-heard : goal.returns-else-self-lt255-clause-heard
returns-else-self-lt255-clause-heard c = none_heard 0 1 _ (omega arith) c.none_heard-self-inside.ensures

pub returns-else-self-lt255-clause-marks : goal.returns-else-self-lt255-clause-marks
returns-else-self-lt255-clause-marks c = none_marked 0 1 _ (omega arith) c.none_marked-self-inside.ensures
