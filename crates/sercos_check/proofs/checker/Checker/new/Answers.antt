use Rattle.std.proofs.Common.{refl}
use Rattle.sercos_check.proofs.checker.Checker.new.Goals as goal

pub returns-clause-stands : goal.returns-clause-stands
returns-clause-stands c = record { count = refl; stands = record { clean = tt; head = c.new.ensures; seen = λ w _. c.new-2.ensures w } }
