use Rattle.sercos_command.proofs.SetLemmas.{is_command-with_data, commands-with_data}
use Rattle.sercos_command.proofs.stored.stored_law.Goals as goal

pub returns-clause-command : goal.returns-clause-command
returns-clause-command c = is_command-with_data

pub returns-clause-set : goal.returns-clause-set
returns-clause-set c = λ other bytes blocks commands. commands-with_data other bytes blocks commands.set
