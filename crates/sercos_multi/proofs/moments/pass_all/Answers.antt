use Rattle.std.proofs.Common.{rules, ◌<◌, length, refl}
use Rattle.sercos_multi.proofs.PassLemmas.{passing_none, passing_turn, passing_next, passing_from, pass_failed, passing_failed, passing_done}
use Rattle.sercos_multi.proofs.moments.pass_all.Goals as goal

pub loop-k-init : goal.loop-k-init
loop-k-init g c = record { count = refl; all = λ voices all from. passing_none g.L.BitLink.carry g.L.BitLink.restart c.args.time c.args.moment c.args.parts.now.items _ voices all }

pub pass-requires-clause-at : goal.pass-requires-clause-at
pass-requires-clause-at g c =
    let (voices, all, from) = c.requires.all in
    let within : c.loop-k.k < length c.loop-k.parts.items = search rules in
    let t = passing_turn g.L.BitLink.carry g.L.BitLink.restart c.args.time c.args.moment c.loop-k.parts.items _ _ c.loop-k.timed c.loop-k.k voices c.index_mut.result.now within c.index_mut.ensures.value (c.loop-k.invariant.all voices all from) in
    (t.item, t.is)

pub returns-in_err-one : goal.returns-in_err-one
returns-in_err-one g c = λ voices all from.
    let within : c.loop-k.k < length c.loop-k.parts.items = search rules in
    let passing = c.loop-k.invariant.all voices all from in
    let t = passing_turn g.L.BitLink.carry g.L.BitLink.restart c.args.time c.args.moment c.loop-k.parts.items _ _ c.loop-k.timed c.loop-k.k voices c.index_mut.result.now within c.index_mut.ensures.value passing in
    let one = c.in_err-one.ensures t.item t.is (passing_from c.args.moment g.L.BitLink.carry g.L.BitLink.restart c.args.time c.loop-k.parts.items c.loop-k.k voices c.index_mut.result.now t from) in
    pass_failed g.L.BitLink.carry g.L.BitLink.restart c.args.time c.args.moment _ _ _ c.from_residual.result voices _ c.from_residual.ensures.0
    (passing_failed g.L.BitLink.carry g.L.BitLink.restart c.args.time c.args.moment c.loop-k.parts.items _ _ _ c.loop-k.timed c.loop-k.k voices c.index_mut.result.now passing t one.written)

pub loop-k-preserved : goal.loop-k-preserved
loop-k-preserved g c =
    let within : c.loop-k.k < length c.loop-k.parts.items = search rules in
    record {
      count = search rules;
      all = λ voices all from.
          let passing = c.loop-k.invariant.all voices all from in
          let t = passing_turn g.L.BitLink.carry g.L.BitLink.restart c.args.time c.args.moment c.loop-k.parts.items _ _ c.loop-k.timed c.loop-k.k voices c.index_mut.result.now within c.index_mut.ensures.value passing in
          let one = c.in_ok-one.ensures t.item t.is (passing_from c.args.moment g.L.BitLink.carry g.L.BitLink.restart c.args.time c.loop-k.parts.items c.loop-k.k voices c.index_mut.result.now t from) in
          rw c.both-timed.ensures (passing_next g.L.BitLink.carry g.L.BitLink.restart c.args.time c.args.moment c.loop-k.parts.items _ _ _ c.loop-k.timed c.in_ok-one.one c.loop-k.k voices c.index_mut.result.now c.pass.new.part passing t one.at one.written one.timed);
    }

pub returns : goal.returns
returns g c = λ voices all from.
    passing_done g.L.BitLink.carry g.L.BitLink.restart c.args.time c.args.moment c.loop-k.parts.items c.args.parts.now.items _ _ c.loop-k.timed c.loop-k.k voices all (search rules) (c.loop-k.invariant.all voices all from)
