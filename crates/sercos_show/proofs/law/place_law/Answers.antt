use Rattle.sercos_show.proofs.PlaceLemmas.{refused_at}
use Rattle.sercos_show.proofs.law.place_law.Goals as goal

pub returns : goal.returns
returns c = refused_at
