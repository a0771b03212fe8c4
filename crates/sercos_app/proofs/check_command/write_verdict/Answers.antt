use Rattle.std.proofs.lemmas.Bool.{false≢true}
use Rattle.sercos_call.specs.Outcome.Writes.{whole, short}
use Rattle.sercos_checking.specs.Checking.{check_answer}
use Rattle.sercos_app.proofs.check_command.write_verdict.Goals as goal

pub returns-in-Ok : goal.returns-in-Ok
unfolding check_answer
returns-in-Ok g c = rw (← c.verdict-verdict.ensures, c.verdict_status.ensures) (whole (rw (c.as_slice.ensures.value, c.verdict_line.ensures) at c.in-Ok.ensures.ok) c.in-Ok.ensures.cause)

pub returns-in-Err : goal.returns-in-Err
unfolding check_answer
returns-in-Err g c =
    let err = rw (c.as_slice.ensures.value, c.verdict_line.ensures) at c.in-Err.ensures.err in
    let room = rw (c.as_slice.ensures.value, c.verdict_line.ensures) at c.in-Err.ensures.room in
    rw (← c.verdict-verdict.ensures, c.fault_status.ensures, c.verdict_status-in-Err.ensures) (short err.0 err.1 err.2 c.in-Err.ensures.cause.0 c.in-Err.ensures.cause.1 (λ fits. false≢true (room fits)))
