use Rattle.sercos_bits.proofs.PackedLemmas.{one_bit}
use Rattle.sercos_bits.proofs.bit_buf.BitBuf.push.Goals as goal

pub returns-clause-ok : goal.returns-clause-ok
returns-clause-ok c = rw (← one_bit c.args.bit, ← c.from.ensures) c.push_lowest.ensures
