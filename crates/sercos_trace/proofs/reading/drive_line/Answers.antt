use Rattle.std.proofs.Common.{[], ◌∷◌, lit<}
use Rattle.sercos_trace.proofs.NumberLemmas.{number_in}
use Rattle.sercos_trace.proofs.reading.drive_line.Goals as goal

pub word_at-requires : goal.word_at-requires
word_at-requires c = number_in c.args.told.now.numbers.items (255 ∷ 255 ∷ 65535 ∷ 65535 ∷ 65535 ∷ 65535 ∷ 65535 ∷ 65535 ∷ 65535 ∷ 65535 ∷ []) 8 c.requires (lit< tt)

pub word_at-requires-2 : goal.word_at-requires-2
word_at-requires-2 c = number_in c.args.told.now.numbers.items (255 ∷ 255 ∷ 65535 ∷ 65535 ∷ 65535 ∷ 65535 ∷ 65535 ∷ 65535 ∷ 65535 ∷ 65535 ∷ []) 9 c.requires (lit< tt)
