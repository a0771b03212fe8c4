-- The lengths so far.
use Rattle.std.proofs.Common.{◌≡◌, length, map, take}
use Rattle.sercos_seat.specs.Seats.{len_of_words}
use Rattle.sercos_seat.proofs.answers.lens_of.Given as goal

abbrev pub invariant-loop-word : goal.invariant-loop-word
invariant-loop-word l = (l.lens.items ≡ map len_of_words (take l.word-index l.words)) × (length l.lens.items ≡ l.word-index)
