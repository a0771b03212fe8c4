-- The digits of the pieces so far.
use Rattle.std.proofs.Common.{◌≡◌, ◌*◌, ◌++◌, length, drop}
use Rattle.hex.specs.Hex.{encode_lower}
use Rattle.sercos_text.proofs.writer.push_digits.Given as goal

abbrev pub invariant-loop-turn : goal.invariant-loop-turn
invariant-loop-turn l = record {
  digits : l.line ++ encode_lower (drop (32 * l.turn) l.bytes) ≡ l.initial.line ++ encode_lower l.bytes;
  room : length l.room ≡ 64;
}
