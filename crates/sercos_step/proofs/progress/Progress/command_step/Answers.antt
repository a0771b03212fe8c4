use Rattle.std.proofs.Common.{◌∙◌, ap}
use Rattle.std.specs.Prelude.{Some}
use Rattle.sercos_step.specs.declared.step.Step.{Step}
use Rattle.sercos_step.proofs.CommandProgress.{command_reads, command_cancels}
use Rattle.sercos_step.proofs.progress.Progress.command_step.Goals as goal

pub returns-then-self-eq2-clause-next : goal.returns-then-self-eq2-clause-next
returns-then-self-eq2-clause-next c = λ words at w.
    let s = rw (← c.self.view_is) at at in
    ap (λ (r : Step). Some r) c.read_of.ensures ∙ command_reads c.args.idn _ words s w c.if-self-eq2.true

pub returns-clause-next : goal.returns-clause-next
returns-clause-next c = λ words at w.
    let s = rw (← c.self.view_is) at at in
    ap (λ (r : Step). Some r) c.write_of-2.ensures ∙ command_cancels c.args.idn _ words s w c.if-self-eq0.false c.if-self-eq1.false c.if-self-eq2.false
