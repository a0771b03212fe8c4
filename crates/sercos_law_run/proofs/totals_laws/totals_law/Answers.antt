use Rattle.sercos_law_run.proofs.Totals.CountLemmas.{none_counted, none_few, few_more, room_for}
use Rattle.sercos_law_run.proofs.Totals.TotalsLemmas.{totals_more}
use Rattle.sercos_law_run.proofs.totals_laws.totals_law.Goals as goal

pub returns-clause-none : goal.returns-clause-none
returns-clause-none c = none_counted

pub returns-clause-more : goal.returns-clause-more
returns-clause-more c = totals_more

pub returns-clause-few_none : goal.returns-clause-few_none
returns-clause-few_none c = none_few

pub returns-clause-few_more : goal.returns-clause-few_more
returns-clause-few_more c = few_more

pub returns-clause-room : goal.returns-clause-room
returns-clause-room c = room_for
