use Rattle.std.proofs.Common.{◌≡◌, ◌+◌, ◌*◌, ◌≤◌, take}
use Rattle.sercos_seat.specs.Seats.{listed_len}
use Rattle.sercos_seat.proofs.answers.listed_len.Given as goal

abbrev pub invariant-loop-word : goal.invariant-loop-word
invariant-loop-word l = (l.len ≡ listed_len (take l.word-index l.words)) × (l.len ≤ 4 + 4 * l.word-index) × (4 ≤ l.len)
