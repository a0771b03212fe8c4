use Rattle.sercos_law_run.proofs.Start.KeptLemmas.{writes_keep, writes_hold, refuse_alike}
use Rattle.sercos_law_run.proofs.Start.LimitLemmas.{refuses_cycle, takes_start_up, names_own, passes_for_phase_4, built_in_is_steady}
use Rattle.sercos_law_run.proofs.Start.LaterLemmas.{blocks_keep}
use Rattle.sercos_law_run.proofs.start_laws.store_of_law.Goals as goal

pub returns-clause-keep : goal.returns-clause-keep
returns-clause-keep c = writes_keep

pub returns-clause-hold : goal.returns-clause-hold
returns-clause-hold c = writes_hold

pub returns-clause-alike : goal.returns-clause-alike
returns-clause-alike c = refuse_alike

pub returns-clause-cycle : goal.returns-clause-cycle
returns-clause-cycle c = refuses_cycle

pub returns-clause-taken : goal.returns-clause-taken
returns-clause-taken c = takes_start_up

pub returns-clause-names : goal.returns-clause-names
returns-clause-names c = names_own

pub returns-clause-passes : goal.returns-clause-passes
returns-clause-passes c = passes_for_phase_4

pub returns-clause-steady : goal.returns-clause-steady
returns-clause-steady c = built_in_is_steady

pub returns-clause-blocks : goal.returns-clause-blocks
returns-clause-blocks c = blocks_keep
