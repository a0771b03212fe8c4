use Rattle.std.proofs.Common.{refl, arith}
use Rattle.sercos_check.proofs.RoundLemmas.{none_heard, none_marked}
use Rattle.sercos_check.proofs.seen.Seen.new.Goals as goal

pub returns : goal.returns
returns c = λ w. record {
  command_is = refl;
  newest_is = refl;
  mdt_is = refl;
  heard_is = λ address byte. none_heard 0 1 _ (omega arith) c.none_heard.ensures address;
  marks_are = λ slave byte. none_marked 0 1 _ (omega arith) c.none_marked.ensures slave;
  free_is = λ start. refl;
}
