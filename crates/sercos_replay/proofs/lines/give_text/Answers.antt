use Rattle.std.proofs.Common.{rules, ◌≡◌, is_some, if◌then◌else◌, ap, ◌∙◌, Some}
use Rattle.sercos_trace.specs.declared.reading.Line.{Line}
use Rattle.sercos_checking.proofs.CheckingLemmas.{read_good, grammar-bad}
use Rattle.sercos_replay.proofs.LineLemmas.{count_begun, unread_refused, line_given}
use Rattle.sercos_replay.proofs.lines.give_text.Goals as goal

pub returns-in-Ok-clause-given : goal.returns-in-Ok-clause-given
returns-in-Ok-clause-given c = λ before clean good kept.
    let value : c.from.result ≡ (if is_some c.mst_cycle.result then 1 else 0) = search rules in
    line_given c.test_law.ensures.follows before _ _ _ _ _ clean good kept (read_good _ _ (ap (λ (l : Line). Some l) c.line-line.ensures ∙ c.in-Ok.ensures.ok))
    (λ s before stands clean. c.give.ensures s before stands (c.capture_law.ensures.clean before _ clean))
    (λ before. count_begun _ before _ _ c.mst_cycle.ensures value)

pub returns-in-Err-clause-given : goal.returns-in-Err-clause-given
returns-in-Err-clause-given c = λ before clean good kept. absurd (unread_refused before _ _ good (grammar-bad _ _ c.in-Err.ensures.err))
