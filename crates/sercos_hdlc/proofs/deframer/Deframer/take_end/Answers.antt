use Rattle.std.proofs.Common.{◌≡◌, ◌+◌, ◌-◌, ◌++◌, sym, ◌∙◌, arith}
use Rattle.sercos_model.specs.Bits.{low_bits}
use Rattle.sercos_hdlc.specs.Reason.{unstuffed}
use Rattle.sercos_hdlc.specs.Sought.{sixth_at}
use Rattle.sercos_hdlc.proofs.EndLemmas.{end_of}
use Rattle.sercos_hdlc.proofs.deframer.Deframer.take_end.Goals as goal

pub returns-clause-fed : goal.returns-clause-fed
returns-clause-fed c = λ bits h.
    let place : c.args.given.count + (c.args.given.ones - 6) ≡ sixth_at c.args.self.now.scan.ones (low_bits 8 c.args.byte) = omega (arith, c.requires.end.place, c.requires.six) in
    let e = end_of c.args.self.now.scan.ones c.args.byte c.args.len (c.args.given.count + (c.args.given.ones - 6)) c.args.given c.requires.few c.requires.len c.requires.end place (omega arith) in
    record {
      plain = h.plain ++ unstuffed c.args.self.now.scan.ones e.before;
      scan = rw e.whole (c.take_end.ensures.scan bits h.plain e.before e.rest h.scan c.requires.few e.long (e.all ∙ sym c.from.ensures) e.none e.five (c.last_zero-dropped.ensures ∙ e.last_zero c.args.self.now.scan.dropped) e.count (c.bit_within-seventh.ensures ∙ e.next));
      kept = rw (c.from-2.ensures, e.plain) at (c.push.ensures h.plain h.kept);
    }
