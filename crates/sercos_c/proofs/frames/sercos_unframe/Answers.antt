use Rattle.std.proofs.Common.{[]}
use Rattle.sercos_c.proofs.frames.sercos_unframe.Goals as goal

pub returns-clause-read : goal.returns-clause-read
returns-clause-read c = λ within short. c.read_frame.ensures.read _ (c.feed_bits.ensures.fed [] c.new-deframer.ensures.fed)
