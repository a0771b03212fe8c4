use Rattle.sercos_law_run.proofs.Start.AnswerLemmas.{asks_as_ring, says_length, no_attribute_stops, typed_have_factors}
use Rattle.sercos_law_run.proofs.Start.HeldLemmas.{writes_start_up, holds_plan}
use Rattle.sercos_law_run.proofs.start_laws.answer_law.Goals as goal

pub returns-clause-asks : goal.returns-clause-asks
returns-clause-asks c = asks_as_ring

pub returns-clause-writes : goal.returns-clause-writes
returns-clause-writes c = writes_start_up

pub returns-clause-holds : goal.returns-clause-holds
returns-clause-holds c = holds_plan

pub returns-clause-says : goal.returns-clause-says
returns-clause-says c = says_length

pub returns-clause-factors : goal.returns-clause-factors
returns-clause-factors c = typed_have_factors

pub returns-clause-stops : goal.returns-clause-stops
returns-clause-stops c = no_attribute_stops
