use Rattle.sercos_law_trace.proofs.Told.ReadLemmas.{reads_exact}
use Rattle.sercos_law_trace.proofs.told_laws.told_law.Goals as goal

pub returns : goal.returns
returns c = record { reads = reads_exact c.headline_law.ensures }
