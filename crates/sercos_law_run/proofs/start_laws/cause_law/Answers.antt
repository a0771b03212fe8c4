use Rattle.sercos_law_run.proofs.Start.CauseLemmas.{causes_alike, cycle_cause, number_has_no_cause, list_has_no_cause}
use Rattle.sercos_law_run.proofs.Start.WellLemmas.{ring_is_valid, checks_end_well, stops_with_list}
use Rattle.sercos_law_run.proofs.start_laws.cause_law.Goals as goal

pub returns-clause-alike : goal.returns-clause-alike
returns-clause-alike c = causes_alike

pub returns-clause-cycle : goal.returns-clause-cycle
returns-clause-cycle c = cycle_cause

pub returns-clause-number : goal.returns-clause-number
returns-clause-number c = number_has_no_cause

pub returns-clause-list : goal.returns-clause-list
returns-clause-list c = list_has_no_cause

pub returns-clause-valid : goal.returns-clause-valid
returns-clause-valid c = ring_is_valid

pub returns-clause-ends : goal.returns-clause-ends
returns-clause-ends c = checks_end_well

pub returns-clause-whole : goal.returns-clause-whole
returns-clause-whole c = stops_with_list
