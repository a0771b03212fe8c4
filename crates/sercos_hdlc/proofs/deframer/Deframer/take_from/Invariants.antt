use Rattle.std.proofs.Common.{◌≡◌, ◌+◌, ◌++◌, Bool, List, take}
use Rattle.sercos_hdlc.specs.Fed.{taken_of, IsFed}
use Rattle.sercos_hdlc.proofs.deframer.Deframer.take_from.Given as goal

abbrev pub invariant-loop-place : goal.invariant-loop-place
invariant-loop-place l = record {
  taken : taken_of l.self + l.from ≡ taken_of l.fn.self + l.place;
  fed : (bits : List Bool) → IsFed (bits ++ take l.from l.piece) l.fn.self → IsFed (bits ++ take l.place l.piece) l.self;
}
