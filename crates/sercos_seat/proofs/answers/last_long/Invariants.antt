use Rattle.std.proofs.Common.{◌≡◌, None}
use Rattle.std.specs.Prelude.{◌-◌, map, drop}
use Rattle.sercos_seat.specs.Seats.{last_long, long_of}
use Rattle.sercos_seat.proofs.answers.last_long.Given as goal

-- none of those after it was read as one of four bytes
abbrev pub invariant-loop-i : goal.invariant-loop-i
invariant-loop-i l = record { none : last_long (drop (l.count - l.i) l.idns) (drop (l.count - l.i) (map long_of l.words)) ≡ None }
