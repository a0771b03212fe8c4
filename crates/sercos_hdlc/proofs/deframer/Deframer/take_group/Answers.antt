use Rattle.std.proofs.Common.{◌<◌, length, arith}
use Rattle.sercos_hdlc.proofs.EndLemmas.{byte_fed}
use Rattle.sercos_hdlc.proofs.deframer.Deframer.take_group.Goals as goal

pub returns-clause-fed : goal.returns-clause-fed
returns-clause-fed c = λ bits h.
    let inside : c.after-group.result.len < length c.args.bytes.now = omega arith in
    rw (byte_fed bits c.args.bytes.now c.after-group.result.len inside) (c.take_low.ensures.fed _ (c.take_clear.ensures.fed bits h))
