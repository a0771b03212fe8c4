use Rattle.std.proofs.Common.{rules, ◌≡◌, suc, ◌*◌, ◌<◌, length, slice_index, arith, add-one}
use Rattle.sercos_timing.specs.Order.{first_sent}
use Rattle.sercos_plan.proofs.StartLemmas.{one_start, one_limit}
use Rattle.sercos_plan.proofs.least.fill_starts.Goals as goal

pub loop-at-preserved : goal.loop-at-preserved
loop-at-preserved c =
    let place : c.from.result ≡ slice_index c.args.w.now.order c.loop-at.at = search rules in
    let below : c.loop-at.at < length c.args.w.now.order = search rules in
    let inside = c.requires.valid.order.within c.loop-at.at below in
    let within : slice_index c.args.w.now.order c.loop-at.at < length c.loop-at.t1 = search rules in
    rw (add-one, place) (record {
      value = one_start c.args.w.now c.loop-at.t1 (slice_index c.args.w.now.order c.loop-at.at) c.start-start.result (first_sent c.args.w.now.order c.loop-at.at) c.loop-at.invariant.value within c.start-start.ensures.value;
      limit = one_limit c.loop-at.t1 (slice_index c.args.w.now.order c.loop-at.at) c.start-start.result (66300 * c.loop-at.at) (66300 * suc c.loop-at.at) c.loop-at.invariant.limit within (omega arith) (omega arith);
    })
