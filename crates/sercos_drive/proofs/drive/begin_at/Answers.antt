use Rattle.std.proofs.Common.{ℕ, List, ◌++◌, ◌∙◌, ap}
use Rattle.sercos_drive.proofs.FeedbackLemmas.{with_values}
use Rattle.sercos_drive.proofs.drive.begin_at.Goals as goal

pub returns-clause-begun : goal.returns-clause-begun
returns-clause-begun c = λ values. ap (λ (begun : List ℕ). begun ++ values) c.write_at.ensures.content ∙ with_values c.args.address c.args.status c.args.info values
