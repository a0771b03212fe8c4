use Rattle.std.proofs.Common.{◌≡◌, ◌+◌, ◌==◌, true, false, sym, ◌∙◌, arith}
use Rattle.std.proofs.lemmas.Bool.Decides.{nat_tests}
use Rattle.sercos_multi.proofs.RunLemmas.{next_cycle, cycle_found, cycle_next, cycles_done}
use Rattle.sercos_multi.proofs.answering.other_cycle.Goals as goal

pub returns-then-cycle-time : goal.returns-then-cycle-time
returns-then-cycle-time g c =
    let test : (c.cycle_of-cycle.result == c.args.time) ≡ false = grind (arith, nat_tests) in
    let here = next_cycle (λ p. p.wishes.cycle) c.args.parts.now c.loop-k.k c.index-parts-k.result c.cycle_of-cycle.result c.loop-k-test.true c.index-parts-k.is c.cycle_of-cycle.ensures in
    sym (cycle_found c.args.time (c.loop-k.k + 1) _ _ c.cycle_of-cycle.result here test) ∙ c.loop-k.invariant

pub loop-k-preserved : goal.loop-k-preserved
loop-k-preserved g c =
    let test : (c.cycle_of-cycle.result == c.args.time) ≡ true = grind (arith, nat_tests) in
    let here = next_cycle (λ p. p.wishes.cycle) c.args.parts.now c.loop-k.k c.index-parts-k.result c.cycle_of-cycle.result c.loop-k-test.true c.index-parts-k.is c.cycle_of-cycle.ensures in
    sym (cycle_next c.args.time (c.loop-k.k + 1) _ _ c.cycle_of-cycle.result here test) ∙ c.loop-k.invariant

pub returns : goal.returns
returns g c = sym (cycles_done (λ p. p.wishes.cycle) c.args.parts.now c.args.time (c.loop-k.k + 1) c.loop-k.k c.loop-k-test.false) ∙ c.loop-k.invariant
