use Rattle.sercos_command.proofs.Statuses.{set_by_newest, set_by_first, status_says}
use Rattle.sercos_command.proofs.law.command_law.Goals as goal

pub returns : goal.returns
returns c = record { set = set_by_newest; first = set_by_first; status = status_says }
