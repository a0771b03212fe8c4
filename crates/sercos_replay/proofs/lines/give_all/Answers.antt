use Rattle.std.proofs.Common.{◌≡◌, ◌<◌, length, arith}
use Rattle.std.proofs.lemmas.Bool.Decides.{nat_tests}
use Rattle.sercos_answer.proofs.CutLemmas.{Cut}
use Rattle.sercos_replay.proofs.LineLemmas.{giving-begun, giving-more, giving-stands, giving-count}
use Rattle.sercos_replay.proofs.lines.give_all.Goals as goal

pub loop-rest-init : goal.loop-rest-init
loop-rest-init c = giving-begun _ _ c.requires.0 c.requires.1

pub loop-rest-preserved : goal.loop-rest-preserved
loop-rest-preserved c =
    let some : 0 < length c.loop-rest.rest.now = grind (arith, nat_tests) in
    let cut : Cut c.loop-rest.rest.now c.cut_line.result.0.now c.cut_line.result.1.now =
    record { some = some; line_is = c.cut_line.ensures.line; others_are = c.cut_line.ensures.rest } in
    giving-more _ _ _ _ _ _ _ _ _ c.loop-rest.invariant cut (c.cut_line.ensures.shorter some) c.give_text-cycles.ensures.bound c.give_text-cycles.ensures.given

pub returns-clause-stands : goal.returns-clause-stands
returns-clause-stands c =
    let none : length c.loop-rest.rest.now ≡ 0 = grind (arith, nat_tests) in
    giving-stands _ _ _ _ _ c.loop-rest.invariant none

pub returns-clause-count : goal.returns-clause-count
returns-clause-count c =
    let none : length c.loop-rest.rest.now ≡ 0 = grind (arith, nat_tests) in
    giving-count _ _ _ _ _ c.loop-rest.invariant none
