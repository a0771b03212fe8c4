use Rattle.std.proofs.Common.{◌*◌}
use Rattle.sercos_hdlc.proofs.KeptLemmas.{behind_bits, behind_below}
use Rattle.sercos_hdlc.proofs.kept.bits_after.Goals as goal

pub returns-clause-bits : goal.returns-clause-bits
returns-clause-bits c = behind_bits c.args.len (8 * c.args.whole) c.args.bits c.requires.long

pub returns-clause-below : goal.returns-clause-below
returns-clause-below c = behind_below c.args.len (8 * c.args.whole) c.args.bits c.requires.long c.requires.below
