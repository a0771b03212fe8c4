use Rattle.std.proofs.Common.{arith}
use Rattle.sercos_step.proofs.WrittenWords.{words_of-at}
use Rattle.sercos_step.proofs.writing.word_at.Goals as goal

pub returns : goal.returns
returns c = omega (arith, c.from_le_bytes.ensures, c.byte_at.ensures, c.byte_at-2.ensures, words_of-at c.args.bytes.now c.args.place)
