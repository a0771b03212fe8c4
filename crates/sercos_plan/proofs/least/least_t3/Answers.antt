use Rattle.std.proofs.Common.{rules, ◌≡◌, ◌+◌, ◌*◌, length, max, slice_index, arith}
use Rattle.sercos_timing.specs.Order.{times, mdt_bits}
use Rattle.sercos_plan.specs.LeastTimes.{round_up}
use Rattle.sercos_plan.proofs.T2Lemmas.{greatest_more, t3_is}
use Rattle.sercos_plan.proofs.least.least_t3.Goals as goal

pub loop-at-preserved : goal.loop-at-preserved
loop-at-preserved c =
    let place : c.from.result ≡ slice_index c.args.w.now.order c.loop-at.at = search rules in
    let more : c.max-most.result ≡ max c.loop-at.most c.record_bits.result = search rules in
    let value = c.record_bits.ensures.value in
    let at : c.record_bits.result ≡ c.args.w.now.rate * c.args.t2 + (mdt_bits c.args.w.now + c.args.w.now.rate * (times c.args.w.now (slice_index c.args.w.now.order c.loop-at.at)).tmtsg) = cc in
    record {
      value = greatest_more (λ k. c.args.w.now.rate * c.args.t2 + (mdt_bits c.args.w.now + c.args.w.now.rate * (times c.args.w.now k).tmtsg)) c.args.w.now.order c.loop-at.at c.loop-at.most c.record_bits.result c.max-most.result c.loop-at.invariant.value at more;
      limit = omega arith;
    }

pub returns-clause-value : goal.returns-clause-value
returns-clause-value c =
    let w = c.args.w.now in
    let all : c.loop-at.at ≡ length w.order = search rules in
    let is : c.round_up.result ≡ round_up w.rate c.loop-at.most = search rules in
    t3_is w c.args.t2 c.loop-at.at c.loop-at.most c.round_up.result c.requires.value all c.loop-at.invariant.value is
