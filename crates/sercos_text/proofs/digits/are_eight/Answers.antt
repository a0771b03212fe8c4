use Rattle.std.proofs.Common.{◌+◌, arith}
use Rattle.std.proofs.lemmas.Bool.{ltb-true}
use Rattle.sercos_text.proofs.DigitLemmas.{eight_digits}
use Rattle.sercos_text.proofs.digits.are_eight.Goals as goal

pub returns : goal.returns
returns c = λ small.
    let less = ltb-true (c.from.result + c.from-2.result + c.from-3.result + c.from-4.result + (c.from-5.result + c.from-6.result + c.from-7.result + c.from-8.result)) 255 small in
    eight_digits c.args.bytes.now c.value_of.result c.value_of-2.result c.value_of-3.result c.value_of-4.result c.value_of-5.result c.value_of-6.result c.value_of-7.result c.value_of-8.result c.requires
    c.value_of.ensures.other c.value_of-2.ensures.other c.value_of-3.ensures.other c.value_of-4.ensures.other c.value_of-5.ensures.other c.value_of-6.ensures.other c.value_of-7.ensures.other c.value_of-8.ensures.other
    (omega (arith, less))
