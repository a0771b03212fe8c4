use Rattle.std.proofs.Common.{◌∙◌, arith}
use Rattle.sercos_bits.proofs.PackedLemmas.{packed-same}
use Rattle.sercos_bits.proofs.bit_buf.BitBuf.assign.Goals as goal

pub returns : goal.returns
returns c =
    packed-same _ _ _ (λ i inside. c.copy_words.ensures.copied i (omega (arith, c.div_ceil.ensures))) ∙ c.other.view_is
