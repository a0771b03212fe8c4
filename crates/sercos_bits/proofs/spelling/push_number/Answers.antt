use Rattle.std.proofs.Common.{ap, arith, length, length-append}
use Rattle.sercos_model.proofs.BitLemmas.{length-low_bits}
use Rattle.sercos_bits.proofs.spelling.push_number.Goals as goal

pub returns-clause-len : goal.returns-clause-len
returns-clause-len c = omega (arith, simp length-append at (ap length c.push_lowest.ensures), length-low_bits c.args.len c.args.number)
