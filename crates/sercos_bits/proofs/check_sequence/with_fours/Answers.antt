use Rattle.std.proofs.Common.{arith, ◌∙◌}
use Rattle.sercos_model.specs.Bits.{low_bits}
use Rattle.sercos_bits.proofs.Division.{fed_four_steps, ones-bits}
use Rattle.sercos_bits.proofs.check_sequence.with_fours.Goals as goal

pub loop-place-init : goal.loop-place-init
loop-place-init c = rw ones-bits

pub loop-place-preserved : goal.loop-place-preserved
loop-place-preserved c =
    rw c.with_four-register.ensures (fed_four_steps (low_bits 16 c.loop-place.register) c.args.bytes.now c.loop-place.place (omega arith) ∙ c.loop-place.invariant)
