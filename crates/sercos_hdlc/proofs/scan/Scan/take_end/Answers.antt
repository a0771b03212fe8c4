use Rattle.std.proofs.Common.{◌≤◌, ◌∷◌, ◌++◌, inr, length, sym, ◌∙◌, arith, length-append, true}
use Rattle.sercos_model.specs.Frames.{flag}
use Rattle.sercos_hdlc.specs.Reason.{unstuffed}
use Rattle.sercos_hdlc.proofs.SoughtLemmas.{agree-more}
use Rattle.sercos_hdlc.proofs.ScanLemmas.{end_way}
use Rattle.sercos_hdlc.proofs.scan.Scan.take_end.Goals as goal

pub returns-clause-scan : goal.returns-clause-scan
returns-clause-scan c = λ bits plain before rest h few long all none five also counted next.
    let behind : 8 ≤ length bits = omega (arith, h.taken_all) in
    record {
      taken_all = omega (arith, long, all, h.taken_all, length-append bits (before ++ true ∷ rest), length-append before (true ∷ rest));
      flag_first = h.flag_first ∙ sym (agree-more bits flag (before ++ true ∷ rest) behind);
      plain_all = omega (arith, h.plain_all, counted, c.from-2.ensures, length-append plain (unstuffed c.args.self.now.ones before));
      way = inr (rw c.from.ensures (end_way bits before rest c.args.self.now.taken c.args.place c.args.seventh c.args.dropped h.way h.taken_all behind few long none five also next));
    }
