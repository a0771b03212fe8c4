use Rattle.std.proofs.Common.{arith}
use Rattle.sercos_bits.proofs.PackedLemmas.{len-of, number-is, number-clear}
use Rattle.sercos_bits.proofs.bit_buf.BitBuf.push_lowest.Goals as goal

pub invariant_of-self : goal.invariant_of-self
invariant_of-self c = record {
  bound = omega (arith, len-of _ _ _ c.self.view_is);
  clear = λ i. number-clear c.put_number.new.words c.self.inside.len c.args.number c.args.len i (rw c.lowest.ensures.value at c.put_number.ensures.there);
}

pub returns : goal.returns
returns c =
    number-is _ _ _ c.args.number c.args.len _ c.self.view_is c.put_number.ensures.before (rw c.lowest.ensures.value at c.put_number.ensures.there)

pub put_number-requires-clause-within : goal.put_number-requires-clause-within
put_number-requires-clause-within c = omega (arith, len-of _ _ _ c.self.view_is)
