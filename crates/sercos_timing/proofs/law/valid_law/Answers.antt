use Rattle.sercos_timing.proofs.TestLemmas.{tells_valid}
use Rattle.sercos_timing.proofs.law.valid_law.Goals as goal

pub returns : goal.returns
returns c = tells_valid
