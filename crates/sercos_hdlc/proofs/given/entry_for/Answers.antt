use Rattle.std.proofs.Common.{arith}
use Rattle.sercos_hdlc.proofs.GivenLemmas.{found}
use Rattle.sercos_hdlc.proofs.given.entry_for.Goals as goal

pub returns : goal.returns
returns c = λ before. rw (c.from.ensures, c.from-2.ensures) (found before c.args.ones c.args.byte c.requires (omega arith))
