use Rattle.std.proofs.Common.{◌≤◌, ◌∷◌, inr, length, sym, ◌∙◌, arith, length-append}
use Rattle.sercos_model.specs.Frames.{flag}
use Rattle.sercos_hdlc.proofs.SoughtLemmas.{agree-more}
use Rattle.sercos_hdlc.proofs.ScanLemmas.{later_way}
use Rattle.sercos_hdlc.proofs.scan.Scan.take_later.Goals as goal

pub returns-clause-scan : goal.returns-clause-scan
returns-clause-scan c = λ bits plain others long h.
    let behind : 8 ≤ length bits = omega (arith, h.taken_all) in
    record {
      taken_all = omega (arith, long, h.taken_all, length-append bits (c.args.bit ∷ others));
      flag_first = h.flag_first ∙ sym (agree-more bits flag (c.args.bit ∷ others) behind);
      plain_all = h.plain_all;
      way = inr (later_way bits others c.args.bit c.args.self.now.taken h.way h.taken_all behind c.requires.six);
    }
