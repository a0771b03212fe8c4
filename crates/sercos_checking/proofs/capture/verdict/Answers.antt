use Rattle.std.proofs.Common.{◌≡◌, ◌<◌, length, ◌∙◌, arith}
use Rattle.std.proofs.lemmas.Bool.Decides.{nat_tests}
use Rattle.sercos_answer.proofs.CutLemmas.{Cut}
use Rattle.sercos_checking.proofs.CheckingLemmas.{taking-begun, taking-more, taking-refused, taking-ended}
use Rattle.sercos_checking.proofs.capture.verdict.Goals as goal

pub loop-rest-init : goal.loop-rest-init
loop-rest-init c = taking-begun _ _ c.args.text.now c.new-shape.ensures.stands c.new-rules.ensures.stands

pub returns-in-Some : goal.returns-in-Some
returns-in-Some c =
    let some : 0 < length c.loop-rest.rest.now = grind (arith, nat_tests) in
    let cut : Cut c.loop-rest.rest.now c.cut_line.result.0.now c.cut_line.result.1.now =
    record { some = some; line_is = c.cut_line.ensures.line; others_are = c.cut_line.ensures.rest } in
    let now = c.loop-rest.invariant in
    taking-refused _ _ _ _ _ _ _ _ now cut (c.in-Some.ensures.column now.before now.taken)

pub loop-rest-preserved : goal.loop-rest-preserved
loop-rest-preserved c =
    let some : 0 < length c.loop-rest.rest.now = grind (arith, nat_tests) in
    let cut : Cut c.loop-rest.rest.now c.cut_line.result.0.now c.cut_line.result.1.now =
    record { some = some; line_is = c.cut_line.ensures.line; others_are = c.cut_line.ensures.rest } in
    let now = c.loop-rest.invariant in
    taking-more _ _ _ _ _ _ _ _ _ now cut (c.cut_line.ensures.shorter some) (c.in_default.ensures.column now.before now.taken) (c.in_default.ensures.taken now.before now.taken)

pub returns : goal.returns
returns c =
    let end : length c.loop-rest.rest.now ≡ 0 = grind (arith, nat_tests) in
    let now = c.loop-rest.invariant in
    c.ended.ensures now.before now.taken ∙ taking-ended _ _ _ _ _ now end
