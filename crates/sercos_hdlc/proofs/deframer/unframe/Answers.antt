use Rattle.std.proofs.Common.{[]}
use Rattle.sercos_hdlc.proofs.deframer.unframe.Goals as goal

pub returns-clause-only : goal.returns-clause-only
returns-clause-only c = λ content is. c.finish.ensures.only _ content (c.feed.ensures.fed [] c.new-deframer.ensures.fed) is

pub returns-clause-content : goal.returns-clause-content
returns-clause-content c = c.finish.ensures.content _ (c.feed.ensures.fed [] c.new-deframer.ensures.fed)

pub returns-clause-reason : goal.returns-clause-reason
returns-clause-reason c = c.finish.ensures.reason _ (c.feed.ensures.fed [] c.new-deframer.ensures.fed)
