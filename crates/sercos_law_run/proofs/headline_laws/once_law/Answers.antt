use Rattle.sercos_law_run.proofs.Headline.OnceRuns.{are_once}
use Rattle.sercos_law_run.proofs.headline_laws.once_law.Goals as goal

pub returns : goal.returns
returns c = λ r jobs carry restarts t j valid run.
    are_once r jobs carry restarts valid t j run
