-- The bytes so far have the first bits.
use Rattle.std.proofs.Common.{◌≡◌, ◌*◌, length, take}
use Rattle.sercos_model.specs.Bits.{bits_of}
use Rattle.sercos_c.proofs.frames.fill.Given as goal

abbrev pub invariant-loop-place : goal.invariant-loop-place
invariant-loop-place l = record {
  front : bits_of (take l.place l.out) ≡ take (8 * l.place) l.bits;
  long : length l.bits ≡ 8 * length l.out;
}
