use Rattle.sercos_planning.proofs.LeastTimesLemmas.{chained}
use Rattle.sercos_planning.proofs.MarginLemmas.{are_margins}
use Rattle.sercos_planning.proofs.margin_command.answer_wishes.Goals as goal

pub returns-in_err-push_cycle-clause-margins : goal.returns-in_err-push_cycle-clause-margins
returns-in_err-push_cycle-clause-margins c =
    rw (← c.plan-plan.ensures.answer)
    (are_margins c.args.wishes.now c.least_cycle-cycle.result c.plan-plan.result c.least_cycle-cycle.ensures.cycle c.least_cycle-cycle.ensures.value
    (λ k t. c.margin_law.ensures.margin c.args.wishes.now k t) c.requires.valid c.requires.limits c.plan-plan.ensures.least c.plan-plan.ensures.none c.plan-plan.ensures.proof
    (chained c.args.wishes.now c.plan-plan.result c.requires.valid c.plan-plan.ensures.chain))

pub returns-clause-margins : goal.returns-clause-margins
returns-clause-margins c =
    rw (← c.plan-plan.ensures.answer)
    (are_margins c.args.wishes.now c.least_cycle-cycle.result c.plan-plan.result c.least_cycle-cycle.ensures.cycle c.least_cycle-cycle.ensures.value
    (λ k t. c.margin_law.ensures.margin c.args.wishes.now k t) c.requires.valid c.requires.limits c.plan-plan.ensures.least c.plan-plan.ensures.none c.plan-plan.ensures.proof
    (chained c.args.wishes.now c.plan-plan.result c.requires.valid c.plan-plan.ensures.chain))

pub returns-in_err-push_chain-in-Err-clause-margins : goal.returns-in_err-push_chain-in-Err-clause-margins
returns-in_err-push_chain-in-Err-clause-margins c =
    rw (← c.plan-plan.ensures.answer)
    (are_margins c.args.wishes.now c.least_cycle-cycle.result c.plan-plan.result c.least_cycle-cycle.ensures.cycle c.least_cycle-cycle.ensures.value
    (λ k t. c.margin_law.ensures.margin c.args.wishes.now k t) c.requires.valid c.requires.limits c.plan-plan.ensures.least c.plan-plan.ensures.none c.plan-plan.ensures.proof
    (chained c.args.wishes.now c.plan-plan.result c.requires.valid c.plan-plan.ensures.chain))
