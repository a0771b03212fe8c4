use Rattle.std.proofs.Common.{arith, length-append, length-take}
use Rattle.std.proofs.KnownBytes.{Consumes-trans}
use Rattle.sercos_io.proofs.whole.read_all.Goals as goal

pub returns-then-len-count-gt-MOST_BYTES-clause-lost :
    goal.returns-then-len-count-gt-MOST_BYTES-clause-lost
returns-then-len-count-gt-MOST_BYTES-clause-lost g c =
    let read = c.in-Ok.ensures in
    let most = simp length-take at c.read.auto.piece in
    (_, Consumes-trans _ _ _ _ _ c.pieces.invariant.taken read.bytes.0, rw length-append (omega (arith, c.pieces.bytes.ok.0, read.bound.1)))

pub returns-then-len-count-gt-MOST_BYTES-clause-too_long :
    goal.returns-then-len-count-gt-MOST_BYTES-clause-too_long
returns-then-len-count-gt-MOST_BYTES-clause-too_long g c =
    λ _. returns-then-len-count-gt-MOST_BYTES-clause-lost g c

pub returns-then-is_err-clause-lost : goal.returns-then-is_err-clause-lost
returns-then-is_err-clause-lost g c =
    let read = c.in-Ok.ensures in
    (_, Consumes-trans _ _ _ _ _ c.pieces.invariant.taken read.bytes.0, rw length-append (omega (arith, c.pieces.bytes.ok.0, read.bound.1)))
