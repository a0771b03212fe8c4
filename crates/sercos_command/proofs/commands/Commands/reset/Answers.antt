use Rattle.std.proofs.Common.{rules}
use Rattle.sercos_command.proofs.CallLemmas.{stands_reset}
use Rattle.sercos_command.proofs.commands.Commands.reset.Goals as goal

pub returns-clause-stands : goal.returns-clause-stands
returns-clause-stands c = stands_reset (search rules)
