use Rattle.std.proofs.Common.{arith}
use Rattle.sercos_hdlc.proofs.TableLemmas.{counts_entry}
use Rattle.sercos_hdlc.proofs.tables.counts_of.Goals as goal

pub returns-clause-len : goal.returns-clause-len
returns-clause-len c = rw c.from.ensures (counts_entry c.args.ones c.args.byte (omega arith) (omega arith)).len

pub returns-clause-ones : goal.returns-clause-ones
returns-clause-ones c = rw c.from.ensures (counts_entry c.args.ones c.args.byte (omega arith) (omega arith)).behind

pub returns-clause-few : goal.returns-clause-few
returns-clause-few c = rw c.from.ensures (counts_entry c.args.ones c.args.byte (omega arith) (omega arith)).few

pub returns-clause-room : goal.returns-clause-room
returns-clause-room c = rw c.from.ensures (counts_entry c.args.ones c.args.byte (omega arith) (omega arith)).room
