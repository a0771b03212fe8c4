use Rattle.std.proofs.lemmas.Bool.{false≢true}
use Rattle.sercos_call.specs.Outcome.Writes.{whole, short}
use Rattle.sercos_call.proofs.giving.give_reply.Goals as goal

pub returns-in-Ok : goal.returns-in-Ok
returns-in-Ok g c = whole (rw (c.as_slice.ensures.value) at c.in-Ok.ensures.ok) c.in-Ok.ensures.cause

pub returns-in-Err : goal.returns-in-Err
returns-in-Err g c =
    let err = rw (c.as_slice.ensures.value) at c.in-Err.ensures.err in
    let room = rw (c.as_slice.ensures.value) at c.in-Err.ensures.room in
    rw c.fault_status.ensures (short err.0 err.1 err.2 c.in-Err.ensures.cause.0 c.in-Err.ensures.cause.1 (λ fits. false≢true (room fits)))
