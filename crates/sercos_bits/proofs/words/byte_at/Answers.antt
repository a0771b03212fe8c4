use Rattle.std.proofs.Common.{◌/◌, arith}
use Rattle.sercos_bits.proofs.PackedLemmas.{byte-bit, byte-bit_two}
use Rattle.sercos_bits.proofs.words.byte_at.Goals as goal

pub returns-then-shift-le-WORD_BITS : goal.returns-then-shift-le-WORD_BITS
returns-then-shift-le-WORD_BITS c = λ i. byte-bit c.args.words.now c.args.place i (omega arith)

pub returns : goal.returns
returns c =
    λ i. byte-bit_two c.args.words.now c.args.place i (omega (arith, c.type_inv.words (c.args.place / 64)))
