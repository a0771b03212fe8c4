use Rattle.sercos_model.specs.Bits.{is_odd}
use Rattle.sercos_hdlc.proofs.EndLemmas.{bit_there, bit_past}
use Rattle.sercos_hdlc.proofs.deframer.bit_within.Goals as goal

pub returns-then-place-len : goal.returns-then-place-len
unfolding is_odd
returns-then-place-len c = bit_there c.args.place c.args.len c.args.byte c.if-place-len.true

pub returns-else-place-len : goal.returns-else-place-len
returns-else-place-len c = bit_past c.args.place c.args.len c.args.byte c.if-place-len.false
