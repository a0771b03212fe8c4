use Rattle.std.proofs.Common.{arith, length-drop}
use Rattle.std.proofs.lemmas.List.{append-nil}
use Rattle.sercos_model.specs.Bits.{bits_of}
use Rattle.sercos_hdlc.proofs.EndLemmas.{some_fed, slice_rest}
use Rattle.sercos_hdlc.proofs.deframer.Deframer.feed_bytes.Goals as goal

pub loop-place-init : goal.loop-place-init
unfolding bits_of
loop-place-init c = record { within = omega arith; taken = omega arith; fed = λ bits h. rw append-nil h }

pub loop-place-preserved : goal.loop-place-preserved
loop-place-preserved c = record {
  within = omega (arith, c.take_some-place.ensures.within, length-drop c.loop-place.place c.args.bytes.now);
  taken = omega (arith, c.take_some-place.ensures.taken, c.loop-place.invariant.taken);
  fed = λ bits h. rw (some_fed bits c.args.bytes.now c.loop-place.place c.take_some-place.result c.loop-place.invariant.within) (rw (slice_rest c.args.bytes.now c.loop-place.place) at (c.take_some-place.ensures.fed _ (c.loop-place.invariant.fed bits h)));
}
