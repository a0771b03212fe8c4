use Rattle.sercos_check.proofs.LawLemmas.{plain_clean, plain_faults, break_rules}
use Rattle.sercos_check.proofs.law.shape_law.Goals as goal

pub returns-clause-clean : goal.returns-clause-clean
returns-clause-clean c = plain_clean

pub returns-clause-fault : goal.returns-clause-fault
returns-clause-fault c = plain_faults

pub returns-clause-rules : goal.returns-clause-rules
returns-clause-rules c = break_rules
