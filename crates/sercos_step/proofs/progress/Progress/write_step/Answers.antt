use Rattle.std.proofs.Common.{◌≡◌, ◌+◌, ◌*◌, refl}
use Rattle.std.specs.Prelude.{slice_index}
use Rattle.sercos_step.specs.Words.{shape_of}
use Rattle.sercos_step.proofs.WriteProgress.{other_next, seven_next}
use Rattle.sercos_step.proofs.progress.Progress.write_step.Goals as goal

pub returns-then-element-ne-DATA-clause-next : goal.returns-then-element-ne-DATA-clause-next
returns-then-element-ne-DATA-clause-next c = λ words at w.
    let s = rw (← c.self.view_is) at at in
    other_next c.args.idn c.args.element c.args.bytes.now c.self.inside.count c.shape_of.result c.as_slice.result.now c.writing_step.result words
    c.if-element-ne-DATA.true c.shape_of.ensures c.as_slice.ensures.value s.count_is c.if-self-eq0.false w c.writing_step.ensures.next

pub returns-clause-next : goal.returns-clause-next
returns-clause-next c = λ words at w.
    let s = rw (← c.self.view_is) at at in
    let laid : c.shape_of-2.result ≡ shape_of 7 (slice_index words 1 + 65536 * slice_index words 2) = rw (c.shape_of-2.ensures, c.attribute.ensures, at.low_is, at.high_is) refl in
    seven_next c.args.idn c.args.element c.args.bytes.now c.self.inside.count c.shape_of-2.result c.as_slice-2.result.now c.writing_step-2.result words
    c.if-element-ne-DATA.false laid c.as_slice-2.ensures.value s.count_is c.if-self-lt3.false w c.writing_step-2.ensures.next
