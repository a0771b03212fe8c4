use Rattle.std.proofs.Common.{sym, arith}
use Rattle.std.proofs.lemmas.List.{take_all}
use Rattle.sercos_bits.proofs.PackedLemmas.{len-of, cut-is}
use Rattle.sercos_bits.proofs.bit_buf.BitBuf.cut.Goals as goal

pub returns-then-len-self : goal.returns-then-len-self
returns-then-len-self c = cut-is _ _ _ _ _ c.self.view_is (omega arith) (λ i before. c.clear_from.ensures.kept i (omega arith))

pub returns-else-len-self : goal.returns-else-len-self
returns-else-len-self c = sym (take_all _ _ (omega (arith, len-of _ _ _ c.self.view_is)))
