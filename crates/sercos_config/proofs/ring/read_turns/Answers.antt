use Rattle.std.proofs.Common.{length, arith}
use Rattle.std.proofs.lemmas.Grind.{common_steps}
use Rattle.sercos_config.specs.Ring.{turns_onto}
use Rattle.sercos_config.proofs.OrderLemmas.{turns_more}
use Rattle.sercos_config.proofs.ring.read_turns.Goals as goal

pub loop-address-preserved : goal.loop-address-preserved
unfolding turns_onto
loop-address-preserved c =
    let valid = rw c.as_slice.ensures.value at c.in_ok-place.ensures.valid in
    (rw c.push.ensures.items (turns_more (length c.args.drives.now) c.loop-address.order.items c.in_ok-place.place c.loop-address.invariant.0 valid), grind (arith, common_steps), grind (arith, common_steps))
