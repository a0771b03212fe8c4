use Rattle.std.proofs.Common.{[], ◌∷◌, lit<}
use Rattle.sercos_trace.proofs.NumberLemmas.{number_in}
use Rattle.sercos_trace.proofs.reading.telegram.Goals as goal

pub number_at-requires : goal.number_at-requires
number_at-requires c = number_in c.args.told.now.numbers.items (4294967295 ∷ 4294967295 ∷ []) 1 c.requires (lit< tt)
