use Rattle.std.proofs.Common.{refl}
use Rattle.sercos_multi.proofs.PassLemmas.{head_written, order_within}
use Rattle.sercos_multi.proofs.moments.write_head.Goals as goal

pub write_marked_header-requires : goal.write_marked_header-requires
write_marked_header-requires g c =
    let (v, is) = c.requires.at in
    order_within c.args.part.now.wishes is.setup is.wishes_is (c.ring_law.ensures is.setup is.valid).order

pub returns : goal.returns
returns g c = λ v is. head_written g.L.BitLink.carry g.L.BitLink.restart c.args.part.now v _ _ c.write_marked_header.result is refl c.write_marked_header.ensures
