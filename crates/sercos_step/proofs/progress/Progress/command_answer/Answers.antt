use Rattle.std.proofs.Common.{ap, ◌≡◌, ◌≤◌, arith}
use Rattle.sercos_step.specs.Kept.{ProgressView}
use Rattle.sercos_step.proofs.CommandProgress.{command_goes_on, command_ends}
use Rattle.sercos_step.proofs.progress.Progress.command_answer.Goals as goal

pub returns : goal.returns
returns c = λ idn words at w.
    let s = rw (← c.self.view_is) at at in
    rw c.count_with-self-inside.ensures (command_goes_on idn _ c.args.word words s w c.if-self-gt2.false)

pub returns-then-self-gt2 : goal.returns-then-self-gt2
returns-then-self-gt2 c = λ idn words at w.
    let m : c.self.inside.count ≡ c.args.self.now.count = ap (λ (p : ProgressView). p.count) c.self.view_is in
    let n : 3 ≤ c.args.self.now.count = omega (arith, m, c.if-self-gt2.true) in
    command_ends idn c.args.self.now c.args.word words at w n
