use Rattle.std.proofs.Common.{arith}
use Rattle.sercos_bits.proofs.TableLemmas.{entry}
use Rattle.sercos_bits.proofs.check_sequence.remainder_of.Goals as goal

pub returns : goal.returns
returns c = rw c.from.ensures (entry c.args.byte (omega arith))
