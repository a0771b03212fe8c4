use Rattle.sercos_law_channel.proofs.Cited.{runs_exact}
use Rattle.sercos_law_channel.proofs.handshake_laws.exact_law.Goals as goal

pub returns : goal.returns
returns c = runs_exact
