use Rattle.std.proofs.Common.{◌≤◌, ◌∷◌, [], inr, length, sym, ◌∙◌, arith, length-append, true}
use Rattle.sercos_model.specs.Frames.{flag}
use Rattle.sercos_hdlc.proofs.SoughtLemmas.{agree-more}
use Rattle.sercos_hdlc.proofs.ScanLemmas.{sixth_way}
use Rattle.sercos_hdlc.proofs.scan.Scan.take_sixth.Goals as goal

pub returns-clause-scan : goal.returns-clause-scan
returns-clause-scan c = λ bits plain h.
    let behind : 8 ≤ length bits = omega (arith, h.taken_all) in
    record {
      taken_all = omega (arith, h.taken_all, length-append bits (true ∷ []));
      flag_first = h.flag_first ∙ sym (agree-more bits flag (true ∷ []) behind);
      plain_all = h.plain_all;
      way = inr (sixth_way bits c.args.self.now.taken h.way h.taken_all behind c.requires.five);
    }
