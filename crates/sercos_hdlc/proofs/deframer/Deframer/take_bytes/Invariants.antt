use Rattle.std.proofs.Common.{◌≡◌, ◌+◌, ◌*◌, ◌++◌, Bool, List, take}
use Rattle.sercos_hdlc.specs.Fed.{taken_of, IsFed}
use Rattle.sercos_hdlc.proofs.deframer.Deframer.take_bytes.Given as goal

abbrev pub invariant-loop-place : goal.invariant-loop-place
invariant-loop-place l = record {
  taken : taken_of l.self ≡ taken_of l.fn.self + 8 * l.place;
  fed : (bits : List Bool) → IsFed bits l.fn.self → IsFed (bits ++ take (8 * l.place) l.piece) l.self;
}
