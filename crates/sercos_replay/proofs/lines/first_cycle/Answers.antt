use Rattle.std.proofs.Common.{◌≡◌, ◌<◌, length, sym, ◌∙◌, arith}
use Rattle.std.proofs.lemmas.Bool.Decides.{nat_tests}
use Rattle.sercos_answer.proofs.CutLemmas.{Cut}
use Rattle.sercos_replay.proofs.LineLemmas.{cycle-more, cycle-here, cycle-none}
use Rattle.sercos_replay.proofs.lines.first_cycle.Goals as goal

pub returns-in-Some : goal.returns-in-Some
returns-in-Some c =
    let some : 0 < length c.loop-rest.rest.now = grind (arith, nat_tests) in
    let cut : Cut c.loop-rest.rest.now c.cut_line.result.0.now c.cut_line.result.1.now =
    record { some = some; line_is = c.cut_line.ensures.line; others_are = c.cut_line.ensures.rest } in
    sym (cycle-here _ _ _ _ cut (sym c.in-Some.ensures)) ∙ c.loop-rest.invariant

pub loop-rest-preserved : goal.loop-rest-preserved
loop-rest-preserved c =
    let some : 0 < length c.loop-rest.rest.now = grind (arith, nat_tests) in
    let cut : Cut c.loop-rest.rest.now c.cut_line.result.0.now c.cut_line.result.1.now =
    record { some = some; line_is = c.cut_line.ensures.line; others_are = c.cut_line.ensures.rest } in
    sym (cycle-more _ _ _ cut (sym c.in_default.ensures)) ∙ c.loop-rest.invariant

pub returns : goal.returns
returns c =
    let none : length c.loop-rest.rest.now ≡ 0 = grind (arith, nat_tests) in
    sym (cycle-none _ none) ∙ c.loop-rest.invariant
