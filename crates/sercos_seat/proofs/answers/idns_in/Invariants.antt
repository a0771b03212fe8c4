use Rattle.std.proofs.Common.{◌≡◌}
use Rattle.std.specs.Prelude.{take}
use Rattle.sercos_seat.specs.Agenda.{idns_in}
use Rattle.sercos_seat.proofs.answers.idns_in.Given as goal

-- the numbers of the first pairs
abbrev pub invariant-loop-place : goal.invariant-loop-place
invariant-loop-place l = l.idns.items ≡ take l.place (idns_in l.bytes)
