use Rattle.std.proofs.Common.{arith}
use Rattle.sercos_show.proofs.LineLemmas.{shared-end}
use Rattle.sercos_show.proofs.line.shared_with.Goals as goal

pub returns-clause-value : goal.returns-clause-value
returns-clause-value c = shared-end c.args.line.now c.args.text.now c.loop-place.place (omega arith) c.loop-place.invariant.0
