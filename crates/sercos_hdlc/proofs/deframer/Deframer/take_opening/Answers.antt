use Rattle.std.proofs.Common.{◌≡◌, arith}
use Rattle.sercos_hdlc.proofs.deframer.Deframer.take_opening.Goals as goal

pub returns-clause-fed : goal.returns-clause-fed
returns-clause-fed c = λ bits h.
    let eight : c.args.len ≡ 8 = omega arith in
    rw eight (record {
      plain = h.plain;
      scan = c.take_first_byte.ensures.scan bits h.plain h.scan;
      kept = h.kept;
    })
