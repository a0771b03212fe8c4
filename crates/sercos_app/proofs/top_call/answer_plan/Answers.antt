use Rattle.sercos_call.proofs.ReplyLemmas.{made_replies}
use Rattle.sercos_app.proofs.top_call.answer_plan.Goals as goal

pub returns : goal.returns
returns g c = made_replies c.plan.result _ _ _ _ _ c.plan.ensures.answer c.plan.ensures.ring c.give_or_refuse.ensures
