use Rattle.std.proofs.Common.{map}
use Rattle.sercos_document.proofs.Least.{least_found}
use Rattle.sercos_document.proofs.keys.least_unknown.Goals as goal

pub returns : goal.returns
returns c =
    least_found (map (λ k. k.now) c.args.keys.now) c.args.table.now.entries c.first_unknown.result c.first_unknown.ensures.ordered c.first_unknown.ensures.found
