use Rattle.sercos_timing.proofs.NamedLemmas.{named_first}
use Rattle.sercos_timing.proofs.law.first_broken_law.Goals as goal

pub returns : goal.returns
returns c = named_first
