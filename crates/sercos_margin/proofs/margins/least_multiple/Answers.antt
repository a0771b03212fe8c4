use Rattle.std.proofs.Common.{◌+◌, ◌/◌, refl, arith}
use Rattle.sercos_margin.proofs.MarginLemmas.{cycle_between_higher, cycle_between_end}
use Rattle.sercos_margin.proofs.margins.least_multiple.Goals as goal

pub loop-low-preserved : goal.loop-low-preserved
loop-low-preserved c =
    let open_yet = c.loop-low-test.true in
    cycle_between_higher c.args.w.now c.loop-low.low c.loop-low.high ((c.loop-low.low + c.loop-low.high) / 2) c.loop-low.invariant (omega arith) (omega arith)
    (c.has_with_cycle.ensures.none c.if-has_with_cycle.false)

pub returns : goal.returns
returns c =
    let closed = c.loop-low-test.false in
    cycle_between_end c.args.w.now c.loop-low.low c.loop-low.high _ c.loop-low.invariant (omega arith) refl
