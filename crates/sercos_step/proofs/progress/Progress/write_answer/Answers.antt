use Rattle.std.proofs.Common.{◌∙◌}
use Rattle.sercos_step.proofs.WriteProgress.{write_more}
use Rattle.sercos_step.proofs.progress.Progress.write_answer.Goals as goal

pub returns : goal.returns
returns c = λ idn words at w.
    let s = rw (← c.self.view_is) at at in
    let q = rw (← c.self.view_is) at c.keep_attribute.ensures in
    let a = rw (← c.self.view_is) at c.attribute-attribute.ensures in
    let x = rw c.as_slice.ensures.value at c.ends_write.ensures in
    let fits = rw c.as_slice.ensures.value at c.as_slice.ensures.bound in
    write_more idn c.args.element c.args.bytes.now c.args.word fits _ _ c.saturating_add-self-inside.result c.attribute-attribute.result c.ends_write.result words
    (c.self-2.view_is ∙ q) c.saturating_add-self-inside.ensures a x s w
