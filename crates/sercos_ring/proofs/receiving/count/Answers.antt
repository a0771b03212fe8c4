use Rattle.std.proofs.Common.{arith, refl, sym}
use Rattle.sercos_model.proofs.BitLemmas.{AreBytes-by_index}
use Rattle.sercos_model.specs.Frames.{IsFrame}
use Rattle.sercos_hdlc.specs.Stuffed.{frame_of}
use Rattle.sercos_law_run.specs.Journal.Arrivals.{content_in}
use Rattle.sercos_ring.proofs.receiving.count.Goals as goal

pub returns-clause-whole : goal.returns-clause-whole
unfolding content_in
returns-clause-whole c =
    let is : IsFrame c.args.said.now (frame_of c.args.said.now) = c.framing_law.ensures.frame c.args.said.now (AreBytes-by_index c.args.said.now (λ i. omega (arith, c.type_inv.said i))) c.requires.some c.requires.fits in
    rw (c.frame_law.ensures.none c.args.said.now (frame_of c.args.said.now) is, sym (c.frame_law.ensures.only c.args.said.now (frame_of c.args.said.now) is)) refl
