use Rattle.std.proofs.Common.{◌++◌, take, length-take-le, arith}
use Rattle.sercos_model.specs.Bits.{bits_of}
use Rattle.sercos_model.proofs.BitLemmas.{length-bits_of}
use Rattle.sercos_hdlc.specs.Reason.{unstuffed}
use Rattle.sercos_hdlc.proofs.deframer.Deframer.take_clear.Goals as goal

pub returns-clause-fed : goal.returns-clause-fed
returns-clause-fed c = λ bits h.
    let group = c.requires.group in
    let front = take c.args.group.len c.args.bytes.now in
    record {
      plain = h.plain ++ unstuffed c.args.self.now.scan.ones (bits_of front);
      scan = c.take_clear.ensures.scan bits h.plain (bits_of front) h.scan c.requires.few (omega (arith, length-bits_of front, length-take-le c.args.group.len c.args.bytes.now c.requires.len)) group.no_six group.behind group.last_zero group.all;
      kept = rw group.plain at (c.push.ensures h.plain h.kept);
    }
