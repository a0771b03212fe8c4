use Rattle.std.proofs.Common.{arith}
use Rattle.sercos_bits.proofs.PackedLemmas.{len-of, byte_bits-is, byte-is}
use Rattle.sercos_bits.proofs.bit_buf.BitBuf.byte_at.Goals as goal

pub byte_at-requires : goal.byte_at-requires
byte_at-requires c = omega (arith, len-of _ _ _ c.self.view_is)

pub returns-clause-bits : goal.returns-clause-bits
returns-clause-bits c = byte_bits-is _ _ _ _ _ c.self.view_is c.requires.within c.byte_at.ensures

pub returns-clause-value : goal.returns-clause-value
returns-clause-value c = byte-is _ _ _ _ _ c.self.view_is c.requires.within (omega arith) c.byte_at.ensures
