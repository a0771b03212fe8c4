use Rattle.std.proofs.Common.{rules, ◌≢◌, inr}
use Rattle.std.proofs.lemmas.Bool.{false≢true}
use Rattle.sercos_document.specs.declared.refusal.BadDocument.TheVariants as bad
use Rattle.sercos_call.specs.Outcome.Writes.{whole, short}
use Rattle.sercos_call.proofs.giving.refuse.Goals as goal

pub returns-in-Ok : goal.returns-in-Ok
returns-in-Ok g c =
    let some : c.args.bad.now ≢ bad.Memory = search rules in
    inr (some, whole c.in-Ok.ensures.ok c.in-Ok.ensures.cause)

pub returns-in-Err : goal.returns-in-Err
returns-in-Err g c =
    let some : c.args.bad.now ≢ bad.Memory = search rules in
    let err = c.in-Err.ensures.err in
    rw c.fault_status.ensures (inr (some, short err.0 err.1 err.2 c.in-Err.ensures.cause.0 c.in-Err.ensures.cause.1 (λ fits. false≢true (c.in-Err.ensures.room fits))))
