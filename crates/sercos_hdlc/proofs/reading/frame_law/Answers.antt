use Rattle.std.proofs.Common.{sym}
use Rattle.sercos_hdlc.proofs.ReasonLemmas.{IsFrame-reason_none, reason_of-IsFrame}
use Rattle.sercos_hdlc.proofs.reading.frame_law.Goals as goal

pub returns-clause-frame : goal.returns-clause-frame
returns-clause-frame c = IsFrame-reason_none

pub returns-clause-none : goal.returns-clause-none
returns-clause-none c = λ content bits is. (reason_of-IsFrame content bits is).0

pub returns-clause-only : goal.returns-clause-only
returns-clause-only c = λ content bits is. sym (reason_of-IsFrame content bits is).1
