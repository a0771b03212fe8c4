use Rattle.std.proofs.Common.{◌<◌, ◌∷◌, [], length, sym, arith, length-append}
use Rattle.sercos_model.specs.Frames.{flag}
use Rattle.sercos_hdlc.proofs.SoughtLemmas.{agree-next}
use Rattle.sercos_hdlc.proofs.ScanLemmas.{first_way}
use Rattle.sercos_hdlc.proofs.scan.Scan.take_first.Goals as goal

pub returns-clause-scan : goal.returns-clause-scan
returns-clause-scan c = λ bits plain h.
    let short : length bits < 8 = omega (arith, h.taken_all) in
    record {
      taken_all = omega (arith, h.taken_all, length-append bits (c.args.bit ∷ []));
      flag_first = rw (h.flag_first, h.taken_all) (sym (agree-next bits flag c.args.bit short));
      plain_all = h.plain_all;
      way = first_way bits c.args.bit h.way short;
    }
