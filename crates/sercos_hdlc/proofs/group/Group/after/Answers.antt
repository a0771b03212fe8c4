use Rattle.std.proofs.Common.{arith}
use Rattle.sercos_model.specs.Bits.{bits_of}
use Rattle.sercos_hdlc.proofs.GroupLemmas.{bits_of-take_more}
use Rattle.sercos_hdlc.proofs.group.Group.after.Goals as goal

pub loop-byte-init : goal.loop-byte-init
unfolding bits_of
loop-byte-init c = record { len = c.none-group.ensures.len; count = omega (arith, c.none-group.ensures.count); group = c.none-group.ensures.group }

pub loop-byte-preserved : goal.loop-byte-preserved
loop-byte-preserved c = record {
  len = omega (arith, c.add.ensures.len, c.loop-byte.invariant.len);
  count = omega (arith, c.add.ensures.count, c.loop-byte.invariant.count);
  group = rw (bits_of-take_more c.args.bytes.now c.loop-byte.byte-index (omega arith)) (c.add.ensures.group c.args.ones c.args.dropped _ c.loop-byte.invariant.group);
}
