use Rattle.sercos_hdlc.proofs.ReasonLemmas.{IsFrame-content}
use Rattle.sercos_hdlc.proofs.deframer.Deframer.content.Goals as goal

pub returns-clause-frame : goal.returns-clause-frame
returns-clause-frame c = λ bits fed.
    IsFrame-content c.read_frame.result bits (λ content. content.now) (c.read_frame.ensures.reason bits fed.plain fed.scan fed.kept)
    (c.read_frame.ensures.content bits fed.plain fed.scan fed.kept)

pub returns-clause-content : goal.returns-clause-content
returns-clause-content c = λ bits fed. c.read_frame.ensures.content bits fed.plain fed.scan fed.kept
