use Rattle.std.proofs.Common.{◌≡◌, ◌++◌, ap, ◌∙◌}
use Rattle.sercos_model.specs.Bits.{bits_of, low_bits}
use Rattle.sercos_model.specs.CheckSequence.{fcs_of}
use Rattle.sercos_model.specs.Frames.{flag}
use Rattle.sercos_hdlc.proofs.FramingLemmas.{bits_of_two, stuffed_then}
use Rattle.sercos_hdlc.proofs.framing.write_frame.Goals as goal

pub returns : goal.returns
returns c =
    let start : c.push_flag.new.out ≡ flag = rw c.clear.ensures at c.push_flag.ensures in
    let check : bits_of c.to_le_bytes.result ≡ low_bits 16 (fcs_of c.args.content.now) = rw (c.to_le_bytes.ensures, c.fcs.ensures) (bits_of_two _) in
    let second = rw check at c.push_bytes.ensures.bits in
    let body = rw start at (stuffed_then c.push_flag.new.out c.push_bytes-ones.new.out c.push_bytes.new.out c.args.content.now c.push_bytes-ones.result c.push_bytes-ones.ensures.bits c.push_bytes-ones.ensures.ones second) in
    c.push_flag-2.ensures ∙ ap (λ b. b ++ flag) body
