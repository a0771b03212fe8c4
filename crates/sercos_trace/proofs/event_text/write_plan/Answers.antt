use Rattle.std.proofs.Common.{ap}
use Rattle.sercos_trace.specs.Texts.{plan_text}
use Rattle.sercos_trace.proofs.MarkedLemmas.{taken_nothing}
use Rattle.sercos_trace.proofs.event_text.write_plan.Goals as goal

pub returns-in-None : goal.returns-in-None
unfolding plan_text
returns-in-None g c = taken_nothing _ _ (ap (plan_text c.args.cycle c.args.wishes.now) c.in-None.is)
