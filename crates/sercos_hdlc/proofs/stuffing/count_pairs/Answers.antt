use Rattle.std.proofs.Common.{◌≡◌, ◌+◌, ◌*◌, arith, sym, ◌∙◌}
use Rattle.sercos_hdlc.proofs.FramingLemmas.{counted_more, stuffed_next_byte, ones_next_byte}
use Rattle.sercos_bits.proofs.Division.{fed_bytes_step}
use Rattle.sercos_hdlc.proofs.stuffing.count_pairs.Goals as goal

pub loop-place-preserved : goal.loop-place-preserved
loop-place-preserved c =
    let next : 2 * c.loop-place.place + 1 + 1 ≡ 2 * (c.loop-place.place + 1) = omega arith in
    let here = 2 * c.loop-place.place in
    let one = counted_more _ _ _ _ _ c.count_byte-between.ensures.len (stuffed_next_byte c.loop-place.run c.args.bytes.now here (omega arith)) c.loop-place.invariant.len in
    let two = counted_more _ _ _ _ _ c.count_byte-run.ensures.len (stuffed_next_byte c.count_byte-between.result c.args.bytes.now (here + 1) (omega arith)) (rw (← c.count_byte-between.ensures.ones) at one) in
    let ones_one = sym (ones_next_byte c.loop-place.run c.args.bytes.now here (omega arith)) ∙ c.loop-place.invariant.same_end in
    let ones_two = sym (ones_next_byte c.count_byte-between.result c.args.bytes.now (here + 1) (omega arith)) ∙ (rw (← c.count_byte-between.ensures.ones) at ones_one) in
    let fed_one = fed_bytes_step c.loop-place.register c.args.bytes.now here (omega arith) in
    let fed_two = fed_bytes_step _ c.args.bytes.now (here + 1) (omega arith) in
    record {
      len = rw (c.count_byte-run.ensures.ones, ← next) two;
      same_end = rw (c.count_byte-run.ensures.ones, ← next) ones_two;
      few = c.count_byte-run.ensures.few;
      room = omega arith;
      same_register = rw (c.take_two.ensures, ← next) (sym fed_two ∙ sym fed_one ∙ c.loop-place.invariant.same_register);
    }
