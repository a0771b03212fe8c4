use Rattle.std.proofs.Common.{◌-◌, ◌/◌, arith}
use Rattle.sercos_margin.proofs.MarginLemmas.{between_lower, between_end}
use Rattle.sercos_margin.proofs.margins.margin_between.Goals as goal

pub loop-low-preserved : goal.loop-low-preserved
loop-low-preserved c =
    let open_yet = c.loop-low-test.true in
    let middle = c.loop-low.high - (c.loop-low.high - c.loop-low.low) / 2 in
    between_lower c.args.w.now c.args.index c.args.t c.loop-low.low c.loop-low.high middle (middle - 1) c.loop-low.invariant (omega arith) (omega arith) (omega arith)
    (c.has_with_time.ensures.none c.if-has_with_time.false)

pub returns : goal.returns
returns c =
    let closed = c.loop-low-test.false in
    between_end c.args.w.now c.args.index c.args.t c.loop-low.low c.loop-low.high c.loop-low.invariant (omega arith)
