use Rattle.std.proofs.Common.{arith}
use Rattle.sercos_hdlc.proofs.TableLemmas.{sent_entry}
use Rattle.sercos_hdlc.proofs.tables.sent_for.Goals as goal

pub returns : goal.returns
returns c = rw c.from.ensures (sent_entry c.args.ones c.args.byte (omega arith) (omega arith))
