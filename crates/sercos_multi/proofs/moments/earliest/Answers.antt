use Rattle.sercos_multi.specs.Going.{Each}
use Rattle.sercos_multi.specs.Parts.{IsAt}
use Rattle.sercos_multi.proofs.ListLemmas.{turn_of}
use Rattle.sercos_multi.proofs.PassLemmas.{earliest_next, earliest_done, soon_one}
use Rattle.std.proofs.Common.{subst, sym, IfSome, ◌<◌}
use Rattle.sercos_multi.proofs.moments.earliest.Goals as goal

pub loop-k-init : goal.loop-k-init
unfolding Each
loop-k-init g c = record { is = λ voices all after. tt; soon = tt }

pub loop-k-preserved : goal.loop-k-preserved
loop-k-preserved g c = record {
  is = λ voices all after.
      earliest_next g.L.BitLink.carry g.L.BitLink.restart c.args.parts.now voices c.loop-k.k c.args.from c.index-parts-k.result c.loop-k.best c.sooner-best.result c.loop-k-test.true c.index-parts-k.is all after
      (c.loop-k.invariant.is voices all after) c.sooner-best.ensures;
  soon =
      let (voices, all, after) = c.requires.all in
      let t = turn_of (IsAt g.L.BitLink.carry g.L.BitLink.restart) c.args.parts.now voices c.loop-k.k c.index-parts-k.result c.loop-k-test.true c.index-parts-k.is all in
      subst (λ o. IfSome o (λ m. m < 50000000)) (sym c.sooner-best.ensures) (soon_one g.L.BitLink.carry g.L.BitLink.restart c.index-parts-k.result t.item c.loop-k.best c.args.from t.is c.loop-k.invariant.soon);
}

pub returns-clause-is : goal.returns-clause-is
returns-clause-is g c = λ voices all after. earliest_done g.L.BitLink.carry g.L.BitLink.restart c.args.parts.now voices c.loop-k.k c.loop-k.best all c.loop-k-test.false (c.loop-k.invariant.is voices all after)

pub returns-clause-bound : goal.returns-clause-bound
returns-clause-bound g c = c.loop-k.invariant.soon
