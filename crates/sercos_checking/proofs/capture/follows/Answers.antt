use Rattle.std.proofs.Common.{◌≡◌, ◌↔◌, true, sym, ◌∙◌, subst, map, ◌∷◌}
use Rattle.std.specs.Result.{is_ok}
use Rattle.sercos_trace.specs.declared.reading.Line.TheVariants as line
use Rattle.sercos_check.specs.Verdicts.{plain, IsClean, CheckerStandsFor}
use Rattle.sercos_checking.proofs.CheckingLemmas.{follow_test, other_plain}
use Rattle.sercos_checking.proofs.capture.follows.Goals as goal

pub returns-in-Telegram-clause-value : goal.returns-in-Telegram-clause-value
returns-in-Telegram-clause-value c =
    rw c.in-Telegram.is (λ before stands shaped. c.is_ok.ensures.value
    ∙ follow_test c.test_law.ensures.follows c.shape_law.ensures.clean before (line.Telegram c.in-Telegram.cycle c.in-Telegram.sent) _ shaped (rw c.requires.other at (c.line.ensures.ok (map plain before) stands)))

pub returns-in-Telegram-clause-stands : goal.returns-in-Telegram-clause-stands
returns-in-Telegram-clause-stands c = rw c.in-Telegram.is (λ before stands. rw c.requires.other at (c.line.ensures.stands (map plain before) stands))

pub returns-in_default : goal.returns-in_default
returns-in_default c =
    let same = sym (other_plain _ c.in_default.not-Telegram) in
    record {
      value = λ before stands shaped. c.is_ok-in_default.ensures.value
          ∙ follow_test c.test_law.ensures.follows c.shape_law.ensures.clean before c.args.line.now _ shaped
          (subst (λ l. (is_ok c.line-in_default.result ≡ true) ↔ IsClean (l ∷ map plain before)) same (c.line-in_default.ensures.ok (map plain before) stands));
      stands = λ before stands. subst (λ l. CheckerStandsFor c.line-in_default.new.self (l ∷ map plain before)) same (c.line-in_default.ensures.stands (map plain before) stands);
    }
