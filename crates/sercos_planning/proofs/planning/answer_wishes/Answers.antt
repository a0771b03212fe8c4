use Rattle.std.proofs.Common.{◌≡◌, IfOk, IfErr, OnErr, Result, Ok, Err, refl, sym}
use Rattle.sercos_timing.specs.Views.{WishesView, PlanView}
use Rattle.sercos_plan.specs.Views.{ChainView}
use Rattle.sercos_plan.specs.ChainOf.{planned}
use Rattle.sercos_plan.specs.Chains.{IsChain}
use Rattle.sercos_plan.specs.Least.{IsLeast, NoneFits}
use Rattle.sercos_planning.specs.LeastTimes.{IsLeastChain}
use Rattle.sercos_planning.specs.Planning.{wishes_answer, IsPlanned}
use Rattle.sercos_planning.proofs.LeastTimesLemmas.{chained}
use Rattle.sercos_planning.proofs.planning.answer_wishes.Goals as goal

is_planned : (w : WishesView) (made : Result PlanView ChainView) → planned w ≡ made → IfOk made (IsLeast w) → OnErr made (NoneFits w) → IfErr made (IsChain w) → IfErr made (IsLeastChain w) → IsPlanned w (wishes_answer w made)
unfolding wishes_answer
is_planned w (Ok p) same least none chain at = record { no = λ e. absurd (cc); chain = λ e. absurd (cc); done = λ e. (p, same, least, refl) }
is_planned w (Err c) same least none chain at = record { no = λ e. none; chain = λ e. (c, same, chain, at, refl); done = λ e. absurd (cc) }

pub returns-clause-planned : goal.returns-clause-planned
returns-clause-planned c =
    rw (← c.plan.ensures.answer)
    (is_planned c.args.wishes.now c.plan.result (sym c.plan.ensures.answer) c.plan.ensures.least c.plan.ensures.none c.plan.ensures.proof (chained c.args.wishes.now c.plan.result c.requires c.plan.ensures.chain))

pub returns-in_err-push_chain-in-Err-clause-planned : goal.returns-in_err-push_chain-in-Err-clause-planned
returns-in_err-push_chain-in-Err-clause-planned c =
    rw (← c.plan.ensures.answer)
    (is_planned c.args.wishes.now c.plan.result (sym c.plan.ensures.answer) c.plan.ensures.least c.plan.ensures.none c.plan.ensures.proof (chained c.args.wishes.now c.plan.result c.requires c.plan.ensures.chain))
