use Rattle.sercos_model.specs.Bits.{is_odd, low_bits, bits_of}
use Rattle.sercos_hdlc.proofs.framing.push_flag.Goals as goal

pub returns : goal.returns
unfolding bits_of low_bits is_odd
returns c = rw c.unwrap.ensures at c.bits_of.ensures.ok
