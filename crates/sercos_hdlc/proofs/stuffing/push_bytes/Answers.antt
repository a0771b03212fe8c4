use Rattle.std.proofs.Common.{arith, sym, ◌∙◌}
use Rattle.sercos_hdlc.proofs.FramingLemmas.{sent_more, sent_all, stuffed_next_byte, stuffed_no_byte, ones_next_byte, ones_no_byte}
use Rattle.sercos_hdlc.proofs.stuffing.push_bytes.Goals as goal

pub loop-byte-preserved : goal.loop-byte-preserved
loop-byte-preserved c = record {
  bits = rw c.push_byte-run.ensures.ones (sent_more _ _ _ _ _ c.push_byte-run.ensures.bits (stuffed_next_byte c.loop-byte.run c.args.bytes.now c.loop-byte.byte-index (omega arith)) c.loop-byte.invariant.bits);
  same_end = rw c.push_byte-run.ensures.ones (sym (ones_next_byte c.loop-byte.run c.args.bytes.now c.loop-byte.byte-index (omega arith)) ∙ c.loop-byte.invariant.same_end);
  few = c.push_byte-run.ensures.few;
  room = omega arith;
}

pub returns-clause-bits : goal.returns-clause-bits
returns-clause-bits c = sent_all _ _ (stuffed_no_byte c.loop-byte.run c.args.bytes.now c.loop-byte.byte-index (omega arith)) c.loop-byte.invariant.bits

pub returns-clause-ones : goal.returns-clause-ones
returns-clause-ones c = sym (ones_no_byte c.loop-byte.run c.args.bytes.now c.loop-byte.byte-index (omega arith)) ∙ c.loop-byte.invariant.same_end
