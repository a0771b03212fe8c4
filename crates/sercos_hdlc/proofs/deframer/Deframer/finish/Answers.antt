use Rattle.std.proofs.Common.{◌≡◌, Ok, Some, None, length, ap, ◌∙◌}
use Rattle.sercos_hdlc.proofs.ReasonLemmas.{reason_of-IsFrame}
use Rattle.sercos_hdlc.proofs.deframer.Deframer.finish.Goals as goal

pub returns-in-Ok-clause-frame : goal.returns-in-Ok-clause-frame
returns-in-Ok-clause-frame c = λ bits fed. rw c.assign.ensures (c.in-Ok.ensures.frame bits fed)

pub returns-in-Ok-clause-only : goal.returns-in-Ok-clause-only
returns-in-Ok-clause-only c = λ bits content fed is.
    let same = c.in-Ok.ensures.content bits fed ∙ (reason_of-IsFrame content bits is).1 in
    (ap Ok (ap length same), c.assign.ensures ∙ same)

pub returns-in-Ok-clause-content : goal.returns-in-Ok-clause-content
returns-in-Ok-clause-content c = λ bits fed. c.assign.ensures ∙ c.in-Ok.ensures.content bits fed

pub returns-in-Err-clause-only : goal.returns-in-Err-clause-only
returns-in-Err-clause-only c = λ bits content fed is.
    absurd (let e : Some c.in-Err.reason ≡ None = c.in-Err.ensures.reason bits fed ∙ (reason_of-IsFrame content bits is).0 in cc)
