use Rattle.std.proofs.Common.{◌≤◌, inl, length, sym, ◌∙◌, arith, length-append}
use Rattle.sercos_model.specs.Frames.{flag}
use Rattle.sercos_hdlc.proofs.SoughtLemmas.{agree-more}
use Rattle.sercos_hdlc.proofs.ScanLemmas.{clear_way}
use Rattle.sercos_hdlc.specs.Reason.{unstuffed}
use Rattle.sercos_hdlc.proofs.scan.Scan.take_clear.Goals as goal

pub returns-clause-scan : goal.returns-clause-scan
returns-clause-scan c = λ bits plain more h few long none is also counted.
    let behind : 8 ≤ length bits = omega (arith, h.taken_all) in
    record {
      taken_all = omega (arith, long, h.taken_all, length-append bits more);
      flag_first = h.flag_first ∙ sym (agree-more bits flag more behind);
      plain_all = omega (arith, h.plain_all, counted, c.from.ensures, length-append plain (unstuffed c.args.self.now.ones more));
      way = inl (clear_way bits more c.args.ones c.args.dropped h.way behind few none is also);
    }
