use Rattle.std.proofs.lemmas.Bool.{false≢true}
use Rattle.sercos_call.specs.Outcome.Writes.{whole, short}
use Rattle.sercos_app.proofs.run_command.give_run.Goals as goal

pub returns-in-Ok : goal.returns-in-Ok
returns-in-Ok g c = λ r jobs carry restarts s. whole (c.in-Ok.ensures.ok r jobs carry restarts s) c.in-Ok.ensures.cause

pub returns-in-Err : goal.returns-in-Err
returns-in-Err g c = λ r jobs carry restarts s.
    let err = c.in-Err.ensures.err r jobs carry restarts s in
    rw c.fault_status.ensures (short err.0 err.1 err.2 c.in-Err.ensures.cause.0 c.in-Err.ensures.cause.1 (λ fits. false≢true (c.in-Err.ensures.room r jobs carry restarts s fits)))
