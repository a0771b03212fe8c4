use Rattle.std.proofs.Common.{ap}
use Rattle.sercos_trace.specs.Texts.{fall_text}
use Rattle.sercos_trace.proofs.MarkedLemmas.{taken_nothing}
use Rattle.sercos_trace.proofs.event_text.write_fall.Goals as goal

pub returns-in-None : goal.returns-in-None
unfolding fall_text
returns-in-None g c = taken_nothing _ _ (ap (fall_text c.args.cycle) c.in-None.is)
