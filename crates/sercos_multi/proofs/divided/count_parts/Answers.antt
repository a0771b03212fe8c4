use Rattle.std.proofs.Common.{◌<◌, sym, arith}
use Rattle.std.specs.Prelude.{length}
use Rattle.sercos_multi.proofs.DivideLemmas.{line_is, next_is, counted_by, counted_begun, counted_end, within_is}
use Rattle.sercos_multi.proofs.divided.count_parts.Goals as goal

pub loop-at-init : goal.loop-at-init
loop-at-init c = record { counted = counted_begun c.args.text.now; within = omega arith }

pub returns-clause-value : goal.returns-clause-value
returns-clause-value c = counted_end c.args.text.now c.loop-at.at c.loop-at.count c.loop-at.invariant.counted c.loop-at-test.false

pub returns-clause-bound : goal.returns-clause-bound
returns-clause-bound c = let few = c.loop-at.invariant.counted.few in let within = c.loop-at.invariant.within in omega (arith, few, within)

pub more_by-count-requires : goal.more_by-count-requires
more_by-count-requires c = let few = c.loop-at.invariant.counted.few in let within = c.loop-at.invariant.within in let most = c.requires in omega (arith, few, within, most)

pub loop-at-preserved : goal.loop-at-preserved
loop-at-preserved c =
    let some : 0 < length c.rest_of-rest.result.now = let a = c.line_len-len.ensures.some in let b = c.line_len-len.ensures.bound in omega (arith, a, b) in
    let is = line_is c.args.text.now c.loop-at.at c.line_len-len.result c.rest_of-rest.result.now c.rest_of-rest.ensures some c.line_len-len.ensures.value in
    let test = next_is c.args.text.now c.loop-at.at c.line_len-len.result c.rest_of-rest.result.now c.front_of.result.now c.is_next.result c.rest_of-rest.ensures c.front_of.ensures (sym c.is_next.ensures) in
    record {
      counted = counted_by c.args.text.now c.loop-at.at c.line_len-len.result c.loop-at.count c.more_by-count.result c.is_next.result c.loop-at.invariant.counted is test c.line_len-len.ensures.some c.more_by-count.ensures;
      within = within_is c.args.text.now c.loop-at.at c.line_len-len.result c.rest_of-rest.result.now c.rest_of-rest.ensures c.loop-at.invariant.within c.line_len-len.ensures.bound;
    }
