use Rattle.std.proofs.Common.{inl, refl}
use Rattle.sercos_hdlc.specs.Sought.{agree}
use Rattle.sercos_hdlc.proofs.SoughtLemmas.{IsSought-none}
use Rattle.sercos_hdlc.proofs.scan.Scan.new.Goals as goal

pub returns : goal.returns
unfolding agree
returns c = record { taken_all = refl; flag_first = refl; plain_all = refl; way = inl IsSought-none }
