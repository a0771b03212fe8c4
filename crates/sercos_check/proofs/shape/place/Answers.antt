use Rattle.std.proofs.Common.{◌∙◌, ap, length, unwrap_or}
use Rattle.sercos_check.proofs.ShapeLemmas.{place_at}
use Rattle.sercos_check.proofs.shape.place.Goals as goal

pub returns-clause-value : goal.returns-clause-value
returns-clause-value c = c.unwrap_or.ensures ∙ ap (λ o. unwrap_or o (length c.args.drives.now)) c.place_found.ensures ∙ place_at _ c.args.drives.now
