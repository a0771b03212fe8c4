use Rattle.sercos_law_run.proofs.Words.{refl, wishes_of}
use Rattle.sercos_law_run.proofs.Totals.Bounds.{plan_starts, plan_positions}
use Rattle.sercos_law_run.proofs.totals_laws.plan_law.Goals as goal

pub returns-clause-starts : goal.returns-clause-starts
returns-clause-starts c = λ r jobs carry restarts t j next. plan_starts r jobs carry restarts (wishes_of r) t j c.master_law.ensures.planned next refl

pub returns-clause-positions : goal.returns-clause-positions
returns-clause-positions c = λ r jobs carry restarts t j next. plan_positions r jobs carry restarts (wishes_of r) t j c.master_law.ensures.planned next refl
