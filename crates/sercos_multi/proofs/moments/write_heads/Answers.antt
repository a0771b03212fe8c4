use Rattle.sercos_multi.specs.Parts.{IsAt}
use Rattle.sercos_trace.proofs.WriteLemmas.{failed_is, taken_none}
use Rattle.sercos_multi.proofs.ListLemmas.{turn_of}
use Rattle.sercos_multi.proofs.PassLemmas.{heads_next, heads_failed, heads_done}
use Rattle.sercos_multi.proofs.moments.write_heads.Goals as goal

pub loop-k-init : goal.loop-k-init
loop-k-init g c = λ voices all. taken_none _

pub write_head-requires : goal.write_head-requires
write_head-requires g c =
    let (voices, all) = c.requires.all in
    let t = turn_of (IsAt g.L.BitLink.carry g.L.BitLink.restart) c.args.parts.now voices c.loop-k.k c.index-parts-k.result c.loop-k-test.true c.index-parts-k.is all in
    record { at = (t.item, t.is) }

pub returns-in_err-write_head : goal.returns-in_err-write_head
returns-in_err-write_head g c = λ voices all.
    let t = turn_of (IsAt g.L.BitLink.carry g.L.BitLink.restart) c.args.parts.now voices c.loop-k.k c.index-parts-k.result c.loop-k-test.true c.index-parts-k.is all in
    failed_is _ _ c.from_residual.result _ c.from_residual.ensures.0
    (heads_failed g.L.BitLink.carry g.L.BitLink.restart c.args.parts.now _ _ _ c.loop-k.k voices c.index-parts-k.result t (c.loop-k.invariant voices all) (c.in_err-write_head.ensures t.item t.is))

pub loop-k-preserved : goal.loop-k-preserved
loop-k-preserved g c = λ voices all.
    let t = turn_of (IsAt g.L.BitLink.carry g.L.BitLink.restart) c.args.parts.now voices c.loop-k.k c.index-parts-k.result c.loop-k-test.true c.index-parts-k.is all in
    heads_next g.L.BitLink.carry g.L.BitLink.restart c.args.parts.now _ _ _ c.loop-k.k voices c.index-parts-k.result t (c.loop-k.invariant voices all) (c.in_ok-write_head.ensures t.item t.is)

pub returns : goal.returns
returns g c = λ voices all. heads_done g.L.BitLink.carry g.L.BitLink.restart c.args.parts.now _ _ c.loop-k.k voices all c.loop-k-test.false (c.loop-k.invariant voices all)
