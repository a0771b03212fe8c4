use Rattle.std.proofs.Common.{arith}
use Rattle.sercos_hdlc.proofs.GivenLemmas.{ending_is, ending_few}
use Rattle.sercos_hdlc.proofs.given.ending.Goals as goal

pub returns-clause-value : goal.returns-clause-value
returns-clause-value c = λ ones few none. rw c.from.ensures (ending_is ones c.args.byte few (omega arith) none)

pub returns-clause-few : goal.returns-clause-few
returns-clause-few c = rw c.from.ensures (ending_few c.args.byte (omega arith))
