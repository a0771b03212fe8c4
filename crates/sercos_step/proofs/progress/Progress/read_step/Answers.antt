use Rattle.std.proofs.Common.{◌≡◌, ◌+◌, ◌*◌, ◌≤◌, ◌∙◌, refl, arith}
use Rattle.sercos_step.specs.Words.{shape_of}
use Rattle.sercos_step.specs.Steps.{steps_before}
use Rattle.sercos_step.proofs.ReadProgress.{read_next}
use Rattle.sercos_step.proofs.progress.Progress.read_step.Goals as goal

pub returns-clause-next : goal.returns-clause-next
returns-clause-next c = λ words at w.
    let s = rw (← c.self.view_is) at at in
    let p = c.self.inside in
    let laid : c.shape_of-shape.result ≡ shape_of c.args.element (p.low + 65536 * p.high) = c.shape_of-shape.ensures ∙ rw (c.attribute.ensures, ← c.self.view_is) refl in
    let n : steps_before c.args.element ≤ p.count = omega (arith, c.steps_before-before.ensures, c.if-self-before.false) in
    let next = rw c.steps_before-before.ensures at c.reading_step.ensures.next in
    read_next c.args.idn c.args.element (record { count = p.count; low = p.low; high = p.high; first = p.first; bytes = p.bytes; status = p.status }) c.shape_of-shape.result c.reading_step.result laid words s w n next
