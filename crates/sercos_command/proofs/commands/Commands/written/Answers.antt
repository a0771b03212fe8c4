use Rattle.sercos_command.proofs.CallLemmas.{stands_other}
use Rattle.sercos_command.proofs.commands.Commands.written.Goals as goal

pub returns-clause-stands : goal.returns-clause-stands
returns-clause-stands c = stands_other c.args.cycle c.forget_checks.ensures
