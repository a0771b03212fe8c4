use Rattle.std.proofs.Common.{◌+◌, drop, ap, sym, ◌∙◌, arith}
use Rattle.std.specs.Prelude.{fold}
use Rattle.sercos_model.specs.Bits.{low_bits, bits_of}
use Rattle.sercos_bits.specs.Register.{fed}
use Rattle.sercos_bits.proofs.Division.{fed_bytes_step, fed_bytes_end}
use Rattle.sercos_bits.proofs.check_sequence.with_rest.Goals as goal

pub loop-place-preserved : goal.loop-place-preserved
loop-place-preserved c =
    ap (λ r. fold fed r (bits_of (drop (c.loop-place.place + 1) c.args.bytes.now))) c.with_byte-rest.ensures
    ∙ sym (fed_bytes_step (low_bits 16 c.loop-place.rest) c.args.bytes.now c.loop-place.place (omega arith)) ∙ c.loop-place.invariant

pub returns : goal.returns
returns c = sym (fed_bytes_end (low_bits 16 c.loop-place.rest) c.args.bytes.now c.loop-place.place (omega arith)) ∙ c.loop-place.invariant
