use Rattle.sercos_law_trace.proofs.Told.KeptWrites.{writes_kept}
use Rattle.sercos_law_trace.proofs.write_laws.write_law.Goals as goal

pub returns : goal.returns
returns c = writes_kept
