use Rattle.std.proofs.Common.{◌≡◌, ◌+◌, ◌<◌, length, Some, None, sym, ◌∙◌, arith}
use Rattle.std.proofs.lemmas.Bool.Decides.{nat_tests}
use Rattle.std.proofs.lemmas.Result.{IfOk-weaker}
use Rattle.sercos_show.specs.Line.{line_fault, line_bits}
use Rattle.sercos_answer.specs.Lines.{lines_of}
use Rattle.sercos_show.specs.Show.{first_fault}
use Rattle.sercos_answer.proofs.CutLemmas.{Cut}
use Rattle.sercos_show.proofs.ShowLemmas.{first_fault-good, answers-more, first_fault-bad, first_fault-end, answers-end, show_answer-done, show_answer-answers, show_answer-refused, show_answer-refusal}
use Rattle.sercos_show.proofs.show.show.Goals as goal

pub returns-in-Err : goal.returns-in-Err
returns-in-Err c =
    let some : 0 < length c.loop-rest.rest.now = grind (arith, nat_tests) in
    let cut : Cut c.loop-rest.rest.now c.cut_line.result.0.now c.cut_line.result.1.now =
    record { some = some; line_is = c.cut_line.ensures.line; others_are = c.cut_line.ensures.rest } in
    let bad : line_fault c.cut_line.result.0.now ≡ Some c.in-Err.place = sym c.in-Err.ensures.fault in
    let fault : first_fault 1 (lines_of c.args.text.now) ≡ Some (c.loop-rest.number, c.in-Err.place + 1) =
    sym c.loop-rest.invariant.1 ∙ first_fault-bad _ _ _ _ _ cut bad in
    record {
      status = IfOk-weaker c.refusal.result _ _ (λ reply e. e ∙ sym (show_answer-refused _ _ _ fault)) c.refusal.ensures.status;
      text = IfOk-weaker c.refusal.result _ _ (λ reply e. e ∙ sym (show_answer-refusal _ _ _ fault)) c.refusal.ensures.text;
    }

pub loop-rest-preserved : goal.loop-rest-preserved
loop-rest-preserved c =
    let some : 0 < length c.loop-rest.rest.now = grind (arith, nat_tests) in
    let cut : Cut c.loop-rest.rest.now c.cut_line.result.0.now c.cut_line.result.1.now =
    record { some = some; line_is = c.cut_line.ensures.line; others_are = c.cut_line.ensures.rest } in
    let good : line_fault c.cut_line.result.0.now ≡ None = sym c.in-Ok.ensures.fault in
    let bits = c.in-Ok.ensures.bits c.loop-rest.invariant.3 in (
      answers-more _ _ _ _ _ _ _ cut c.in-Ok.ensures.kind (c.in_ok-push_answer-in-Ok.ensures (line_bits c.cut_line.result.0.now) bits) c.loop-rest.invariant.0,
      sym (first_fault-good _ _ _ _ cut good) ∙ c.loop-rest.invariant.1,
      omega (arith, c.cut_line.ensures.shorter some),
      c.restart.ensures.fed,
      c.restart.ensures.taken,
    )

pub returns-clause-status : goal.returns-clause-status
returns-clause-status c =
    let end : length c.loop-rest.rest.now ≡ 0 = grind (arith, nat_tests) in
    sym (show_answer-done _ (sym c.loop-rest.invariant.1 ∙ first_fault-end _ _ end))

pub returns-clause-text : goal.returns-clause-text
returns-clause-text c =
    let end : length c.loop-rest.rest.now ≡ 0 = grind (arith, nat_tests) in
    sym (answers-end _ _ end) ∙ c.loop-rest.invariant.0 ∙ sym (show_answer-answers _ (sym c.loop-rest.invariant.1 ∙ first_fault-end _ _ end))
