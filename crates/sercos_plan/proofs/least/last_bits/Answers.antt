use Rattle.std.proofs.Common.{rules, ◌*◌, ◌<◌, length, slice_index}
use Rattle.sercos_plan.proofs.T2Lemmas.{five_at}
use Rattle.sercos_plan.proofs.least.last_bits.Goals as goal

pub returns-clause-value : goal.returns-clause-value
returns-clause-value c =
    let some : 0 < length c.args.w.now.order = search rules in
    let last = five_at c.args.w.now (λ j. c.args.w.now.rate * slice_index c.args.t1.now j) c.args.w.now.order (length c.args.w.now.order) some in
    let value = c.bits_after.ensures.value in
    cc
