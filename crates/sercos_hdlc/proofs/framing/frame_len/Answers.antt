use Rattle.std.proofs.Common.{◌≡◌, ◌++◌, ap, arith, length, refl, sym, ◌∙◌}
use Rattle.std.specs.Prelude.{fold}
use Rattle.sercos_model.specs.Bits.{bits_of, low_bits}
use Rattle.sercos_model.specs.CheckSequence.{sixteen_ones, fcs_of}
use Rattle.sercos_bits.specs.Register.{fed}
use Rattle.sercos_model.specs.Frames.{flag, plain_of, IsFrame}
use Rattle.sercos_model.proofs.BitLemmas.{AreBytes-by_index}
use Rattle.sercos_hdlc.specs.Stuffed.{stuffed, frame_of}
use Rattle.sercos_hdlc.proofs.FramingLemmas.{bits_of_two, IsFrame-framed, length_framed, one_frame}
use Rattle.sercos_hdlc.proofs.framing.frame_len.Goals as goal

framed : (c : goal.After-count_bytes) → IsFrame c.args.content.now (flag ++ stuffed 0 (plain_of c.args.content.now) ++ flag)
framed c =
    IsFrame-framed _ _ (AreBytes-by_index c.args.content.now (λ i. omega (arith, c.type_inv.content i))) c.requires.some c.requires.fits refl

counted : (c : goal.After-count_bytes) → c.count_bytes.new.len ≡ length (flag ++ stuffed 0 (plain_of c.args.content.now) ++ flag)
counted c =
    let taken : c.count_taken-ones.new.register ≡ fold fed sixteen_ones (bits_of c.args.content.now) = rw c.new-register.ensures at c.count_taken-ones.ensures.register in
    let check : bits_of c.to_le_bytes.result ≡ low_bits 16 (fcs_of c.args.content.now) = rw (c.to_le_bytes.ensures, c.fcs.ensures c.args.content.now taken) (bits_of_two _) in
    rw (c.count_bytes.ensures.len, check, c.count_taken-ones.ensures.ones, c.count_taken-ones.ensures.len) (sym (length_framed c.args.content.now))

pub returns-clause-bits : goal.returns-clause-bits
returns-clause-bits c = (_, framed c, counted c)

pub returns-clause-only : goal.returns-clause-only
returns-clause-only c = λ bits is. counted c ∙ ap length (one_frame c.args.content.now _ bits (framed c) is)

pub returns-clause-frame : goal.returns-clause-frame
unfolding frame_of
returns-clause-frame c = counted c
