use Rattle.std.proofs.Common.{refl}
use Rattle.sercos_app.proofs.SavingLemmas.{if_ok, is_reply, reply_replies}
use Rattle.sercos_app.proofs.top_call.answer_show.Goals as goal

pub returns : goal.returns
returns g c = reply_replies c.show.result _ _ _ _ _ (is_reply c.show.result _ _ refl c.show.ensures.status c.show.ensures.text) (if_ok c.show.result tt) c.give_if_made.ensures
