use Rattle.std.proofs.Common.{sym, ◌∙◌, map}
use Rattle.sercos_check.specs.Verdicts.{plain}
use Rattle.sercos_checking.proofs.CheckingLemmas.{shape_ended, clean_ended, broken_ended}
use Rattle.sercos_checking.proofs.capture.ended.Goals as goal

pub returns-in-Err : goal.returns-in-Err
returns-in-Err c = λ lines taken.
    c.verdict_on.ensures ∙ shape_ended c.shape_law.ensures.fault c.shape_law.ensures.head lines _ taken.shaped (c.in-Err.ensures.err (map plain lines) taken.shape_stands)

pub returns-in-Ok : goal.returns-in-Ok
returns-in-Ok c = λ lines taken.
    let whole = c.in_default.ensures.ok (map plain lines) taken.shape_stands in
    clean_ended lines _ (sym (c.shape_law.ensures.head lines) ∙ whole.1) (c.in-Ok.ensures.ok lines taken.rules_stand)

pub returns-in-Err-finish : goal.returns-in-Err-finish
returns-in-Err-finish c = λ lines taken.
    let whole = c.in_default.ensures.ok (map plain lines) taken.shape_stands in
    c.verdict_on-in-Err-finish.ensures
    ∙ broken_ended c.shape_law.ensures.rules lines _ (sym (c.shape_law.ensures.head lines) ∙ whole.1) taken.shaped (c.in-Err-finish.ensures.err lines taken.rules_stand)
