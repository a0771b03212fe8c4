use Rattle.std.proofs.Common.{refl, arith}
use Rattle.sercos_text.proofs.DigitLemmas.{digit_more, digits_end}
use Rattle.sercos_text.proofs.digits.are_digits.Goals as goal

pub loop-byte-preserved : goal.loop-byte-preserved
loop-byte-preserved c =
    digit_more c.args.bytes.now c.loop-byte.byte-index c.loop-byte.all _ _ (omega arith) (rw c.is_digit-all.ensures refl) c.loop-byte.invariant

pub returns : goal.returns
returns c = digits_end c.args.bytes.now c.loop-byte.byte-index c.loop-byte.all _ (omega arith) c.loop-byte.invariant
