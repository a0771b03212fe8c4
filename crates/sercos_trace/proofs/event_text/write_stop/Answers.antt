use Rattle.std.proofs.Common.{ap}
use Rattle.sercos_trace.specs.Texts.{stop_text}
use Rattle.sercos_trace.proofs.MarkedLemmas.{taken_nothing}
use Rattle.sercos_trace.proofs.event_text.write_stop.Goals as goal

pub returns-in-None : goal.returns-in-None
unfolding stop_text
returns-in-None g c = taken_nothing _ _ (ap (stop_text c.args.cycle) c.in-None.is)
