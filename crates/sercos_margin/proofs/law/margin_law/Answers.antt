use Rattle.sercos_margin.proofs.EasierLemmas.{less_time, longer_cycle}
use Rattle.sercos_margin.proofs.FoundLemmas.{margin_found}
use Rattle.sercos_margin.proofs.law.margin_law.Goals as goal

pub returns-clause-time : goal.returns-clause-time
returns-clause-time c = less_time

pub returns-clause-cycle : goal.returns-clause-cycle
returns-clause-cycle c = longer_cycle

pub returns-clause-margin : goal.returns-clause-margin
returns-clause-margin c = margin_found
