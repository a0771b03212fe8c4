use Rattle.std.proofs.Common.{[], ◌∷◌, ◌++◌, false, sym, ◌∙◌}
use Rattle.sercos_step.specs.Steps.{answer_words}
use Rattle.sercos_step.specs.Kept.{IsAfterAnswer}
use Rattle.sercos_step.proofs.Answered.{not_whole, complete, stands_on}
use Rattle.sercos_step.proofs.transfer.Transfer.answer.Goals as goal

pub returns-then-answer_at-clause-outcome : goal.returns-then-answer_at-clause-outcome
returns-then-answer_at-clause-outcome c = λ r h stood.
    let s = rw (← c.self.view_is) at stood in
    let going = rw (← c.self.view_is) at c.requires in
    let x = rw s.request_is at c.answer_at.ensures in
    let w = not_whole r h (sym s.done_is ∙ going) in
    let y = x (answer_words h) (s.at_work going) w in
    complete r h c.args.a c.result_at.result c.if-a.false (sym y.whole_is ∙ c.if-answer_at.true) (c.result_at.ensures ∙ (rw s.request_is (y.ended c.if-answer_at.true)))

pub returns-clause-stands : goal.returns-clause-stands
returns-clause-stands c = λ r h stood.
    let s = rw (← c.self.view_is) at stood in
    let going = rw (← c.self.view_is) at c.requires in
    let x = rw s.request_is at c.answer_at.ensures in
    let w = not_whole r h (sym s.done_is ∙ going) in
    let y = x (answer_words h) (s.at_work going) w in
    let z : IsAfterAnswer r c.answer_at.new.progress (answer_words h ++ c.args.a.word ∷ []) false = rw (← c.if-answer_at.false) y in
    stands_on _ c.answer_at.new.progress r h c.args.a s going c.if-a.false z
