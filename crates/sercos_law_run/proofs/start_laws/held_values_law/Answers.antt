use Rattle.sercos_law_run.proofs.Start.LaterLemmas.{stay_held, holds_next, start_up_is_protected, checks_are_protected, stores_start_up_whole, lists_stay}
use Rattle.sercos_law_run.proofs.start_laws.held_values_law.Goals as goal

pub returns-clause-next : goal.returns-clause-next
returns-clause-next c = holds_next

pub returns-clause-stay : goal.returns-clause-stay
returns-clause-stay c = stay_held

pub returns-clause-protected : goal.returns-clause-protected
returns-clause-protected c = start_up_is_protected

pub returns-clause-lists : goal.returns-clause-lists
returns-clause-lists c = lists_stay

pub returns-clause-checks : goal.returns-clause-checks
returns-clause-checks c = checks_are_protected

pub returns-clause-whole : goal.returns-clause-whole
returns-clause-whole c = stores_start_up_whole
