use Rattle.sercos_law_run.proofs.Start.BlockFinds.{carry_alike}
use Rattle.sercos_law_run.proofs.Start.Lengths.{are_as_long}
use Rattle.sercos_law_run.proofs.Start.CheckPasses.{plan_passes_check}
use Rattle.sercos_law_run.proofs.start_laws.start_up_law.Goals as goal

pub returns-clause-carry_alike : goal.returns-clause-carry_alike
returns-clause-carry_alike c = carry_alike

pub returns-clause-as_long : goal.returns-clause-as_long
returns-clause-as_long c = are_as_long

pub returns-clause-passes : goal.returns-clause-passes
returns-clause-passes c = plan_passes_check
