use Rattle.sercos_law_run.proofs.Settings.SetKept.{set_by_kept}
use Rattle.sercos_law_run.proofs.Settings.SetRuns.{set_by_writes}
use Rattle.sercos_law_run.proofs.Settings.WellRuns.{stand_well}
use Rattle.sercos_law_run.proofs.Settings.CheckRuns.{checks_give_3}
use Rattle.sercos_law_run.proofs.settings_laws.settings_law.Goals as goal

pub returns-clause-kept : goal.returns-clause-kept
returns-clause-kept c = set_by_kept

pub returns-clause-set : goal.returns-clause-set
returns-clause-set c = set_by_writes

pub returns-clause-well : goal.returns-clause-well
returns-clause-well c = stand_well

pub returns-clause-three : goal.returns-clause-three
returns-clause-three c = checks_give_3
