use Rattle.std.proofs.Common.{arith, ◌∙◌}
use Rattle.sercos_text.proofs.WriteSteps.{pair_entry}
use Rattle.sercos_text.proofs.writer.pair_of.Goals as goal

pub returns : goal.returns
returns c = c.to_le_bytes.ensures ∙ rw c.from.ensures (pair_entry c.args.byte (omega arith))
