use Rattle.std.proofs.Common.{arith}
use Rattle.std.proofs.lemmas.List.Elements.{All-replicate}
use Rattle.sercos_check.specs.Rounds.{was_noted}
use Rattle.sercos_check.proofs.seen.none_marked.Goals as goal

pub returns : goal.returns
returns c = All-replicate (was_noted 0) 256 _ (omega arith)
