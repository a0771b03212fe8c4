use Rattle.sercos_law_run.proofs.Agenda.CallMoves.{calls_are_moves}
use Rattle.sercos_law_run.proofs.agenda_laws.channel_law.Goals as goal

pub returns : goal.returns
returns c = record { moves = calls_are_moves }
