use Rattle.sercos_plan.proofs.ChainLemmas.{planned_proof}
use Rattle.sercos_plan.proofs.AnswerLemmas.{planned_least, planned_only, planned_none}
use Rattle.sercos_plan.proofs.planning.plan.Goals as goal

pub returns-clause-least : goal.returns-clause-least
returns-clause-least c = planned_least c.args.w.now c.requires c.planned.result c.planned.ensures

pub returns-clause-only : goal.returns-clause-only
returns-clause-only c = planned_only c.args.w.now c.requires c.planned.result c.planned.ensures

pub returns-clause-none : goal.returns-clause-none
returns-clause-none c = planned_none c.args.w.now c.requires c.planned.result c.planned.ensures

pub returns-clause-proof : goal.returns-clause-proof
returns-clause-proof c = planned_proof c.args.w.now c.requires c.planned.result c.planned.ensures
