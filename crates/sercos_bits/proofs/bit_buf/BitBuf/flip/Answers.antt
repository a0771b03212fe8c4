use Rattle.std.proofs.Common.{◌∙◌, arith}
use Rattle.sercos_bits.proofs.PackedLemmas.{len-of, flip-is}
use Rattle.sercos_bits.proofs.bit_buf.BitBuf.flip.Goals as goal

pub flip_in-requires : goal.flip_in-requires
flip_in-requires c = omega (arith, len-of _ _ _ c.self.view_is)

pub invariant_of-self : goal.invariant_of-self
invariant_of-self c = record {
  bound = c.self.invariant.bound;
  clear = λ i past. c.flip_in.ensures.others i (λ e. omega (arith, len-of _ _ _ c.self.view_is)) ∙ c.self.invariant.clear i past;
}

pub returns : goal.returns
returns c = flip-is _ _ _ _ _ c.self.view_is c.requires c.flip_in.ensures.there c.flip_in.ensures.others
