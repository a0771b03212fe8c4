-- The digits of the bytes so far, and the rest of the room as it was.
use Rattle.std.proofs.Common.{◌≡◌, ◌*◌, ◌++◌, take, drop}
use Rattle.hex.specs.Hex.{encode_lower}
use Rattle.sercos_text.proofs.writer.put_pairs.Given as goal

abbrev pub invariant-loop-place : goal.invariant-loop-place
invariant-loop-place l = l.room ≡ encode_lower (take l.place l.bytes) ++ drop (2 * l.place) l.initial.room
