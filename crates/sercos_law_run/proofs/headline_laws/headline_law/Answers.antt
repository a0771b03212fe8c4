use Rattle.sercos_law_run.proofs.Headline.HeadlineRuns.{keeps_all}
use Rattle.sercos_law_run.proofs.headline_laws.headline_law.Goals as goal

pub returns : goal.returns
returns c =
    λ r jobs carry restarts t j opened run clear. keeps_all r jobs carry restarts opened t j run clear
