use Rattle.sercos_bits.proofs.PackedLemmas.{ones-there, ones-kept, bit_in-other_word}
use Rattle.sercos_bits.proofs.words.set_ones.Goals as goal

pub returns-clause-there : goal.returns-clause-there
returns-clause-there c = λ i. ones-there c.args.words.now c.args.word c.args.mask i c.requires

pub returns-clause-kept : goal.returns-clause-kept
returns-clause-kept c = λ i. ones-kept c.args.words.now c.args.word c.args.mask i c.requires

pub returns-clause-others : goal.returns-clause-others
returns-clause-others c = λ i. bit_in-other_word c.args.words.now c.args.word _ i
