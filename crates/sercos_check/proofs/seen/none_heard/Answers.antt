use Rattle.std.proofs.Common.{arith}
use Rattle.std.proofs.lemmas.List.Elements.{All-replicate}
use Rattle.sercos_check.specs.Rounds.{is_no_later}
use Rattle.sercos_check.proofs.seen.none_heard.Goals as goal

pub returns : goal.returns
returns c = All-replicate (is_no_later 0) 256 0 (omega arith)
