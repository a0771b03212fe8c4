use Rattle.sercos_call.specs.Outcome.Replies.{replied}
use Rattle.sercos_app.proofs.top_call.answer_check.Goals as goal

pub returns : goal.returns
returns g c = replied _ tt c.write_verdict.ensures
