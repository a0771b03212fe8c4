use Rattle.std.proofs.Common.{arith}
use Rattle.sercos_bits.proofs.PackedLemmas.{part-before, whole-there, both-before, both-there}
use Rattle.sercos_bits.proofs.words.put_number.Goals as goal

pub returns-then-len-shift-clause-before : goal.returns-then-len-shift-clause-before
returns-then-len-shift-clause-before c =
    λ i. both-before c.args.words.now c.set_ones.new.words c.set_ones-then-len-shift.new.words c.args.place c.from-bits.result i c.set_ones.ensures.kept c.set_ones.ensures.others c.set_ones-then-len-shift.ensures.others

pub returns-then-len-shift-clause-there : goal.returns-then-len-shift-clause-there
returns-then-len-shift-clause-there c =
    rw (← c.from-bits.ensures) (λ i. both-there c.args.words.now c.set_ones.new.words c.set_ones-then-len-shift.new.words c.args.place c.from-bits.result i
    c.set_ones.ensures.there c.set_ones.ensures.others c.set_ones-then-len-shift.ensures.there c.set_ones-then-len-shift.ensures.others c.requires.zeros (omega arith))

pub returns-else-len-shift-clause-before : goal.returns-else-len-shift-clause-before
returns-else-len-shift-clause-before c =
    λ i. part-before c.args.words.now c.set_ones.new.words c.args.place c.from-bits.result i c.set_ones.ensures.kept c.set_ones.ensures.others

pub returns-else-len-shift-clause-there : goal.returns-else-len-shift-clause-there
returns-else-len-shift-clause-there c =
    rw (← c.from-bits.ensures) (λ i. whole-there c.args.words.now c.set_ones.new.words c.args.place c.from-bits.result c.args.len i
    c.set_ones.ensures.there c.set_ones.ensures.others c.requires.zeros (omega arith) (omega arith))
