use Rattle.sercos_step.proofs.KnownSteps.{steps_known}
use Rattle.sercos_step.proofs.Ends.{has_next, read_ends, write_ends}
use Rattle.sercos_step.proofs.ReadBack.{list_back, value_back}
use Rattle.sercos_step.proofs.law.steps_law.Goals as goal

pub returns-clause-known : goal.returns-clause-known
returns-clause-known c = steps_known

pub returns-clause-next : goal.returns-clause-next
returns-clause-next c = has_next

pub returns-clause-read_ends : goal.returns-clause-read_ends
returns-clause-read_ends c = read_ends

pub returns-clause-write_ends : goal.returns-clause-write_ends
returns-clause-write_ends c = write_ends

pub returns-clause-list : goal.returns-clause-list
returns-clause-list c = list_back

pub returns-clause-value : goal.returns-clause-value
returns-clause-value c = value_back
