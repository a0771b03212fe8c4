use Rattle.std.proofs.Common.{refl}
use Rattle.sercos_step.proofs.transfer.answer_at.Goals as goal

pub returns-in-Read : goal.returns-in-Read
returns-in-Read c = λ words at w.
    let r = c.read_answer.ensures c.in-Read.idn words (rw c.in-Read.is at at) (rw c.in-Read.is at w) in
    rw c.in-Read.is (record { whole_is = r.1; goes_on = λ _. r.0; ended = λ _. r.0.bytes_is })

pub returns-in-Write : goal.returns-in-Write
returns-in-Write c = λ words at w.
    let r = c.write_answer.ensures c.in-Write.idn words (rw c.in-Write.is at at) (rw c.in-Write.is at w) in
    rw c.in-Write.is (record { whole_is = r.1; goes_on = λ _. r.0; ended = λ _. refl })

pub returns-in-Command : goal.returns-in-Command
returns-in-Command c = λ words at w.
    let r = c.command_answer.ensures c.in-Command.idn words (rw c.in-Command.is at at) (rw c.in-Command.is at w) in
    rw c.in-Command.is (record { whole_is = r.whole_is; goes_on = r.goes_on; ended = λ t. rw (r.ended t) refl })
