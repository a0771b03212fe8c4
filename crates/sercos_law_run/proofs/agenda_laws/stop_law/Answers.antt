use Rattle.sercos_law_run.proofs.Agenda.StopCauses.{bad_config_cause}
use Rattle.sercos_law_run.proofs.Cited.{check127_has_cause, check128_has_cause, no_fit_has_cause, refused_has_cause}
use Rattle.sercos_law_run.proofs.agenda_laws.stop_law.Goals as goal

pub returns : goal.returns
returns c = record {
  no_fit = no_fit_has_cause;
  refused = refused_has_cause;
  bad_config = λ s requests h address i word. bad_config_cause s requests h address i word;
  check127 = check127_has_cause;
  check128 = check128_has_cause;
}
