use Rattle.std.proofs.Common.{refl}
use Rattle.sercos_show.specs.Show.{two_bits}
use Rattle.sercos_show.proofs.text.status_bits.Goals as goal

pub returns : goal.returns
unfolding two_bits
returns c = rw (c.bit_digit.ensures, c.bit_digit-2.ensures, c.bit_digit-3.ensures, c.bit_digit-4.ensures) refl
