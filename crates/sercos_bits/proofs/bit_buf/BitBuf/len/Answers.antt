use Rattle.sercos_bits.proofs.PackedLemmas.{len-of}
use Rattle.sercos_bits.proofs.bit_buf.BitBuf.len.Goals as goal

pub returns-clause-value : goal.returns-clause-value
returns-clause-value c = len-of _ _ _ c.self.view_is
