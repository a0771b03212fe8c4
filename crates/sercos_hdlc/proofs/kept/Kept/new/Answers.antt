use Rattle.std.proofs.Common.{inl, refl}
use Rattle.sercos_model.specs.Bits.{bits_of, low_bits}
use Rattle.sercos_hdlc.proofs.kept.Kept.new.Goals as goal

pub returns : goal.returns
unfolding bits_of low_bits
returns c = record { all = inl (rw c.new.ensures refl) }
