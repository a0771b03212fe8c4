use Rattle.std.proofs.Common.{ap, Some, refl, sym, ◌∙◌}
use Rattle.sercos_check.proofs.CheckerLemmas.{stopped, running, count, no_trouble, only_refused, only_short, not_refused}
use Rattle.sercos_check.proofs.checker.Checker.finish.Goals as goal

pub returns-in-Some-clause-whole : goal.returns-in-Some-clause-whole
returns-in-Some-clause-whole c = λ lines stands n whole. absurd (no_trouble lines _ whole.0 (stopped _ _ lines _ c.self.view_is c.in-Some.is stands))

pub returns-in-Some-clause-refused : goal.returns-in-Some-clause-refused
returns-in-Some-clause-refused c = λ lines stands t refused. ap Some (only_refused lines _ t (stopped _ _ lines _ c.self.view_is c.in-Some.is stands) refused)

pub returns-then-not-is_whole-clause-refused : goal.returns-then-not-is_whole-clause-refused
returns-then-not-is_whole-clause-refused c = λ lines stands t refused.
    ap Some (only_short lines _ t c.self.inside.lines (running _ _ lines c.self.view_is c.in_default.is stands).clean refl (count _ _ lines c.self.view_is stands) refused)

pub returns-clause-refused : goal.returns-clause-refused
returns-clause-refused c = λ lines stands t refused.
    let now = running _ _ lines c.self.view_is c.in_default.is stands in
    absurd (not_refused lines t now.clean (sym (c.is_whole.ensures lines now.head) ∙ c.if-not-is_whole.false) refused)
