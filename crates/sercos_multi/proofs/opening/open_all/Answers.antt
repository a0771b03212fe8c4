use Rattle.std.proofs.Common.{refl, arith}
use Rattle.sercos_multi.specs.Divided.{parts_of}
use Rattle.sercos_multi.proofs.AllLemmas.{none_opened, part_is, text_after, one_opened, one_refused, all_opened}
use Rattle.sercos_multi.proofs.opening.open_all.Goals as goal

pub loop-k-init : goal.loop-k-init
loop-k-init c = record { text = λ some. refl; opened = none_opened _ _ (parts_of c.args.bytes.now) c.new-parts.result.items c.new-parts.ensures.items }

pub loop-k-preserved : goal.loop-k-preserved
loop-k-preserved c =
    let below = c.loop-k-test.true in
    let text = c.loop-k.invariant.text below in
    let is = part_is (parts_of c.args.bytes.now) c.loop-k.k c.loop-k.rest.now _ _ _ text c.cut_part-more.ensures in
    record {
      text = λ more. text_after (parts_of c.args.bytes.now) c.loop-k.k c.loop-k.rest.now _ _ _ text c.cut_part-more.ensures (let count = c.requires.count in omega (arith, more, count));
      opened = one_opened _ _ (parts_of c.args.bytes.now) c.loop-k.k c.loop-k.parts.items _ c.in-Ok.opened _ c.loop-k.invariant.opened is c.in-Ok.ensures c.in_ok-push-in-Ok.ensures.ok;
    }

pub returns-in-Err-clause-err : goal.returns-in-Err-clause-err
returns-in-Err-clause-err c =
    let below = c.loop-k-test.true in
    let text = c.loop-k.invariant.text below in
    let is = part_is (parts_of c.args.bytes.now) c.loop-k.k c.loop-k.rest.now _ _ _ text c.cut_part-more.ensures in
    one_refused _ _ (parts_of c.args.bytes.now) c.loop-k.k c.loop-k.parts.items _ c.in-Err.why c.loop-k.invariant.opened is c.in-Err.ensures

pub returns-clause-ok : goal.returns-clause-ok
returns-clause-ok c = all_opened _ _ (parts_of c.args.bytes.now) c.loop-k.k c.loop-k.parts.items (let ended = c.loop-k-test.false in let count = c.requires.count in omega (arith, ended, count)) c.loop-k.invariant.opened
