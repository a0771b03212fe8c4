use Rattle.sercos_law_run.proofs.Journal.RunLemmas.{next-is, is-next, one_run, made_run, length-run_of}
use Rattle.sercos_law_run.proofs.journal_laws.run_law.Goals as goal

pub returns-clause-next : goal.returns-clause-next
returns-clause-next c = next-is

pub returns-clause-is_next : goal.returns-clause-is_next
returns-clause-is_next c = is-next

pub returns-clause-one : goal.returns-clause-one
returns-clause-one c = one_run

pub returns-clause-made : goal.returns-clause-made
returns-clause-made c = made_run

pub returns-clause-count : goal.returns-clause-count
returns-clause-count c = length-run_of
