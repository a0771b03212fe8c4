use Rattle.std.proofs.Common.{◌≡◌, ◌+◌, ◌*◌, ◌<◌, ◌≤◌, ◌∙◌, refl, arith}
use Rattle.sercos_step.specs.Words.{shape_of}
use Rattle.sercos_step.specs.Steps.{steps_before}
use Rattle.sercos_step.proofs.ReadProgress.{read_before, read_more}
use Rattle.sercos_step.proofs.progress.Progress.read_answer.Goals as goal

pub returns : goal.returns
returns c = λ idn words at w.
    let s = rw (← c.self.view_is) at at in
    let p = c.self.inside in
    let laid : c.shape_of-shape.result ≡ shape_of c.args.element (p.low + 65536 * p.high) = c.shape_of-shape.ensures ∙ rw (c.attribute.ensures, ← c.self.view_is) refl in
    let n : steps_before c.args.element ≤ p.count = omega (arith, c.steps_before-before.ensures, c.if-count-before.false) in
    let after = rw c.steps_before-before.ensures at (c.keep_word-whole.ensures c.args.element) in
    read_more idn c.args.element c.args.word (record { count = p.count; low = p.low; high = p.high; first = p.first; bytes = p.bytes; status = p.status }) c.shape_of-shape.result c.keep_word-whole.new.first c.keep_word-whole.new.bytes c.keep_word-whole.result
    c.saturating_add-self-inside.result c.saturating_add-self-inside.ensures laid words s w n after

pub returns-then-count-before : goal.returns-then-count-before
returns-then-count-before c = λ idn words at w.
    let s = rw (← c.self.view_is) at at in
    let p = c.self.inside in
    let n : p.count < steps_before c.args.element = omega (arith, c.steps_before-before.ensures, c.if-count-before.true) in
    let q = rw (← c.self.view_is) at c.keep_attribute.ensures in
    read_before idn c.args.element c.args.word (record { count = p.count; low = p.low; high = p.high; first = p.first; bytes = p.bytes; status = p.status }) _ (c.self-then-count-before.view_is ∙ q) words s n
