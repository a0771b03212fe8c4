use Rattle.sercos_trace.proofs.KindLemmas.{templates}
use Rattle.sercos_trace.proofs.kind.template_law.Goals as goal

pub returns : goal.returns
returns c = templates
