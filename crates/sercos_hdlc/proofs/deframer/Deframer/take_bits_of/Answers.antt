use Rattle.std.proofs.Common.{◌≡◌, ◌-◌, arith}
use Rattle.sercos_model.specs.Bits.{is_odd}
use Rattle.sercos_model.proofs.BitLemmas.{low_bits-next, low_bits-none}
use Rattle.sercos_hdlc.proofs.FedLemmas.{IsTaking-none, IsTaking-next, IsTaking-end}
use Rattle.sercos_hdlc.proofs.deframer.Deframer.take_bits_of.Goals as goal

pub loop-place-init : goal.loop-place-init
loop-place-init c =
    let all : c.args.len - 0 ≡ c.args.len = omega arith in
    record { taken = omega arith; taking = rw all IsTaking-none }

pub loop-place-preserved : goal.loop-place-preserved
unfolding is_odd
loop-place-preserved c = record {
  taken = omega arith;
  taking = IsTaking-next _ _ c.loop-place.invariant.taking (low_bits-next c.args.len c.loop-place._place c.loop-place.rest (omega arith)) c.take_bit.ensures.fed;
}

pub returns-clause-fed : goal.returns-clause-fed
returns-clause-fed c = IsTaking-end c.loop-place.invariant.taking (low_bits-none c.args.len c.loop-place._place c.loop-place.rest (omega arith))
