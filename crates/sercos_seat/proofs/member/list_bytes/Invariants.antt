use Rattle.std.proofs.Common.{◌≡◌, ◌*◌, ◌++◌, length, map, drop}
use Rattle.sercos_step.specs.Words.{bytes_in}
use Rattle.sercos_seat.proofs.member.list_bytes.Given as goal

-- the bytes of the numbers so far, and those of the numbers that are left, are all
abbrev pub invariant-loop-idn : goal.invariant-loop-idn
invariant-loop-idn l = (l.bytes ++ bytes_in (map (λ i. i.raw) (drop l.idn-index l.idns)) ≡ bytes_in (map (λ i. i.raw) l.idns)) × (length l.bytes ≡ 2 * l.idn-index)
