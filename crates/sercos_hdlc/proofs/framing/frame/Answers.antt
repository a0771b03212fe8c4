use Rattle.std.proofs.Common.{arith}
use Rattle.sercos_model.specs.Frames.{IsFrame}
use Rattle.sercos_model.proofs.BitLemmas.{AreBytes-by_index}
use Rattle.sercos_hdlc.proofs.FramingLemmas.{IsFrame-framed, length-IsFrame}
use Rattle.sercos_hdlc.proofs.framing.frame.Goals as goal

-- what was appended is a frame of the content
framed : (c : goal.After-write_frame) → IsFrame c.args.content.now c.write_frame.new.out
framed c =
    IsFrame-framed _ _ (AreBytes-by_index c.args.content.now (λ i. omega (arith, c.type_inv.content i))) (omega arith) (omega arith) c.write_frame.ensures

pub returns-clause-ok : goal.returns-clause-ok
returns-clause-ok c = framed c

pub returns-clause-wire : goal.returns-clause-wire
returns-clause-wire c = length-IsFrame _ _ (framed c)
