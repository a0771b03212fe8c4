use Rattle.std.proofs.Common.{[], ◌∷◌, lit<}
use Rattle.sercos_trace.proofs.NumberLemmas.{number_in}
use Rattle.sercos_trace.proofs.reading.times.Goals as goal

pub word_at-requires : goal.word_at-requires
word_at-requires c = number_in c.args.told.now.numbers.items (255 ∷ 255 ∷ 65535 ∷ 65535 ∷ 65535 ∷ 65535 ∷ 65535 ∷ 65535 ∷ 65535 ∷ 65535 ∷ []) 2 c.requires (lit< tt)

pub word_at-requires-2 : goal.word_at-requires-2
word_at-requires-2 c = number_in c.args.told.now.numbers.items (255 ∷ 255 ∷ 65535 ∷ 65535 ∷ 65535 ∷ 65535 ∷ 65535 ∷ 65535 ∷ 65535 ∷ 65535 ∷ []) 3 c.requires (lit< tt)

pub word_at-requires-3 : goal.word_at-requires-3
word_at-requires-3 c = number_in c.args.told.now.numbers.items (255 ∷ 255 ∷ 65535 ∷ 65535 ∷ 65535 ∷ 65535 ∷ 65535 ∷ 65535 ∷ 65535 ∷ 65535 ∷ []) 4 c.requires (lit< tt)

pub word_at-requires-4 : goal.word_at-requires-4
word_at-requires-4 c = number_in c.args.told.now.numbers.items (255 ∷ 255 ∷ 65535 ∷ 65535 ∷ 65535 ∷ 65535 ∷ 65535 ∷ 65535 ∷ 65535 ∷ 65535 ∷ []) 5 c.requires (lit< tt)

pub word_at-requires-5 : goal.word_at-requires-5
word_at-requires-5 c = number_in c.args.told.now.numbers.items (255 ∷ 255 ∷ 65535 ∷ 65535 ∷ 65535 ∷ 65535 ∷ 65535 ∷ 65535 ∷ 65535 ∷ 65535 ∷ []) 6 c.requires (lit< tt)

pub word_at-requires-6 : goal.word_at-requires-6
word_at-requires-6 c = number_in c.args.told.now.numbers.items (255 ∷ 255 ∷ 65535 ∷ 65535 ∷ 65535 ∷ 65535 ∷ 65535 ∷ 65535 ∷ 65535 ∷ 65535 ∷ []) 7 c.requires (lit< tt)
