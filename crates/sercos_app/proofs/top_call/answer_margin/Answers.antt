use Rattle.sercos_call.proofs.ReplyLemmas.{made_replies}
use Rattle.sercos_app.proofs.top_call.answer_margin.Goals as goal

pub returns : goal.returns
returns g c = made_replies c.margins.result _ _ _ _ _ c.margins.ensures.answer c.margins.ensures.ring c.give_or_refuse.ensures
