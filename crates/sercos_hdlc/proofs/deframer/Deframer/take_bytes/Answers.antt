use Rattle.std.proofs.Common.{arith}
use Rattle.sercos_hdlc.proofs.FedLemmas.{eight_more}
use Rattle.sercos_hdlc.proofs.deframer.Deframer.take_bytes.Goals as goal

pub loop-place-preserved : goal.loop-place-preserved
loop-place-preserved c = record {
  taken = omega arith;
  fed = λ bits h. rw (eight_more c.args.piece.now bits c.loop-place.place _ c.byte_at.ensures.bits) (c.take_low.ensures.fed _ (c.loop-place.invariant.fed bits h));
}
