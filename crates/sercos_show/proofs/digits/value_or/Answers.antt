use Rattle.std.proofs.Common.{arith}
use Rattle.sercos_show.proofs.DigitLemmas.{value_by, test_at}
use Rattle.sercos_show.proofs.digits.value_or.Goals as goal

pub returns-clause-digit : goal.returns-clause-digit
returns-clause-digit c = rw c.from.ensures (value_by c.args.byte (omega arith))

pub returns-clause-test : goal.returns-clause-test
returns-clause-test c = rw c.from.ensures (test_at c.args.byte (omega arith))
