-- Feeding the bytes that are left ends where feeding all bytes does.
use Rattle.std.proofs.Common.{◌≡◌, ◌*◌, drop}
use Rattle.std.specs.Prelude.{fold}
use Rattle.sercos_model.specs.Bits.{low_bits, bits_of}
use Rattle.sercos_model.specs.CheckSequence.{sixteen_ones}
use Rattle.sercos_bits.specs.Register.{fed}
use Rattle.sercos_bits.proofs.check_sequence.with_fours.Given as goal

abbrev pub invariant-loop-place : goal.invariant-loop-place
invariant-loop-place l = fold fed (low_bits 16 l.register) (bits_of (drop (4 * l.place) l.bytes)) ≡ fold fed sixteen_ones (bits_of l.bytes)
