use Rattle.std.proofs.Common.{rules, ◌≡◌, ◌+◌, ◌*◌, length, max, slice_index, arith}
use Rattle.std.specs.Prelude.{unwrap_or}
use Rattle.sercos_timing.specs.Order.{sent, at_bits, times}
use Rattle.sercos_timing.specs.Inequalities.{asked_5}
use Rattle.sercos_plan.specs.LeastTimes.{round_up, least_bits}
use Rattle.sercos_plan.proofs.T2Lemmas.{t2_is, after_is, greatest_more}
use Rattle.sercos_plan.proofs.least.least_t2.Goals as goal

pub returns-clause-value : goal.returns-clause-value
returns-clause-value c =
    let w = c.args.w.now in
    let all : c.loop-at.at ≡ length w.order = search rules in
    let last : c.last_bits-gap.result ≡ unwrap_or (asked_5 w (λ j. w.rate * slice_index c.args.t1.now j) (sent w)) 0 = c.last_bits-gap.ensures.value in
    let end : c.max.result ≡ max c.last_bits-gap.result c.loop-at.most = search rules in
    let is : c.round_up.result ≡ round_up w.rate c.max.result = search rules in
    t2_is w c.args.t1.now c.loop-at.at c.last_bits-gap.result c.loop-at.most c.max.result c.round_up.result c.requires.value all last c.loop-at.invariant.value end is

pub loop-at-preserved : goal.loop-at-preserved
loop-at-preserved c =
    let w = c.args.w.now in
    let place : c.from-place.result ≡ slice_index w.order c.loop-at.at = search rules in
    let more : c.max-most.result ≡ max c.loop-at.most c.bits_after.result = search rules in
    let time : c.from-tatmt.result ≡ (times w (slice_index w.order c.loop-at.at)).tatmt = search rules in
    let limit = c.bits_after.ensures.limit (66300 * 64) (search rules) in
    let at = after_is w c.args.t1.now (slice_index w.order c.loop-at.at) c.from-place.result c.from-tatmt.result c.bits_after.result place (c.requires.value (slice_index w.order c.loop-at.at)) time c.bits_after.ensures.value in
    record {
      value = greatest_more (λ k. least_bits w (sent w) k + (at_bits w k + w.rate * (times w k).tatmt)) w.order c.loop-at.at c.loop-at.most c.bits_after.result c.max-most.result c.loop-at.invariant.value at more;
      limit = omega arith;
    }
