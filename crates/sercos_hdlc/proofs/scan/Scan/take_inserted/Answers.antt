use Rattle.std.proofs.Common.{◌≤◌, ◌∷◌, [], inl, length, sym, ◌∙◌, arith, length-append, false}
use Rattle.sercos_model.specs.Frames.{flag}
use Rattle.sercos_hdlc.proofs.SoughtLemmas.{agree-more}
use Rattle.sercos_hdlc.proofs.ScanLemmas.{inserted_way}
use Rattle.sercos_hdlc.proofs.scan.Scan.take_inserted.Goals as goal

pub returns-clause-scan : goal.returns-clause-scan
returns-clause-scan c = λ bits plain h.
    let behind : 8 ≤ length bits = omega (arith, h.taken_all) in
    record {
      taken_all = omega (arith, h.taken_all, length-append bits (false ∷ []));
      flag_first = h.flag_first ∙ sym (agree-more bits flag (false ∷ []) behind);
      plain_all = h.plain_all;
      way = inl (inserted_way bits h.way behind c.requires.five);
    }
