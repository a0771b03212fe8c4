use Rattle.std.proofs.Common.{◌+◌, ◌-◌, drop, arith, length-drop}
use Rattle.sercos_text.proofs.WriteSteps.{take_few}
use Rattle.sercos_text.proofs.writer.piece_of.Goals as goal

pub returns-clause-value : goal.returns-clause-value
returns-clause-value c =
    take_few (drop c.args.place c.args.bytes.now) (c.args.place + c.min.result - c.args.place) 32 (omega arith) (λ less. omega (arith, length-drop c.args.place c.args.bytes.now, less))
