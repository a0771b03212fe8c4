use Rattle.std.proofs.Common.{◌<◌, sym, ◌∙◌, arith}
use Rattle.std.specs.Prelude.{length}
use Rattle.sercos_multi.proofs.DivideLemmas.{line_is, next_is, cut_begun, cut_more, found_is, cut_end, within_is}
use Rattle.sercos_multi.proofs.divided.cut_part.Goals as goal

pub loop-at-init : goal.loop-at-init
loop-at-init c = record { cuts = cut_begun c.args.text.now; within = omega arith }

pub returns-then-is_next : goal.returns-then-is_next
returns-then-is_next c =
    let some : 0 < length c.rest_of-rest.result.now = let a = c.line_len-len.ensures.some in let b = c.line_len-len.ensures.bound in omega (arith, a, b) in
    let is = line_is c.args.text.now c.loop-at.at c.line_len-len.result c.rest_of-rest.result.now c.rest_of-rest.ensures some c.line_len-len.ensures.value in
    let test = next_is c.args.text.now c.loop-at.at c.line_len-len.result c.rest_of-rest.result.now c.front_of.result.now _ c.rest_of-rest.ensures c.front_of.ensures (sym c.is_next.ensures ∙ c.if-is_next.true) in
    found_is c.args.text.now c.loop-at.at c.line_len-len.result c.front_of-then-is_next.result.now c.rest_of.result.now c.rest_of-rest.result.now c.loop-at.invariant.cuts is test c.front_of-then-is_next.ensures c.rest_of-rest.ensures c.rest_of.ensures

pub loop-at-preserved : goal.loop-at-preserved
loop-at-preserved c =
    let some : 0 < length c.rest_of-rest.result.now = let a = c.line_len-len.ensures.some in let b = c.line_len-len.ensures.bound in omega (arith, a, b) in
    let is = line_is c.args.text.now c.loop-at.at c.line_len-len.result c.rest_of-rest.result.now c.rest_of-rest.ensures some c.line_len-len.ensures.value in
    let test = next_is c.args.text.now c.loop-at.at c.line_len-len.result c.rest_of-rest.result.now c.front_of.result.now _ c.rest_of-rest.ensures c.front_of.ensures (sym c.is_next.ensures ∙ c.if-is_next.false) in
    record {
      cuts = cut_more c.args.text.now c.loop-at.at c.line_len-len.result c.loop-at.invariant.cuts is test;
      within = within_is c.args.text.now c.loop-at.at c.line_len-len.result c.rest_of-rest.result.now c.rest_of-rest.ensures c.loop-at.invariant.within c.line_len-len.ensures.bound;
    }

pub returns : goal.returns
returns c = cut_end c.args.text.now c.loop-at.at c.loop-at.invariant.cuts c.loop-at-test.false
