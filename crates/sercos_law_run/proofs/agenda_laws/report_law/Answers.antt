use Rattle.sercos_law_run.proofs.Agenda.Requests.{are_requests}
use Rattle.sercos_law_run.proofs.Agenda.ToldEvents.{are_told, are_told_at_restart}
use Rattle.sercos_law_run.proofs.Cited.{told_in_order, told_once, told_right}
use Rattle.sercos_law_run.proofs.agenda_laws.report_law.Goals as goal

pub returns : goal.returns
returns c = record {
  requests = are_requests;
  in_order = told_in_order;
  once = told_once;
  right = told_right;
  events = are_told;
  restart = are_told_at_restart;
}
