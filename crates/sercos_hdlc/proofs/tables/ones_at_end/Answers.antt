use Rattle.std.proofs.Common.{arith}
use Rattle.sercos_hdlc.proofs.TableLemmas.{ends_entry, few_at_end}
use Rattle.sercos_hdlc.proofs.tables.ones_at_end.Goals as goal

pub returns-clause-end : goal.returns-clause-end
returns-clause-end c = λ ones few. rw (c.from-2.ensures, c.from.ensures) (ends_entry ones c.args.byte few (omega arith))

pub returns-clause-few : goal.returns-clause-few
returns-clause-few c = rw (c.from-2.ensures, c.from.ensures) (few_at_end c.args.byte (omega arith))
