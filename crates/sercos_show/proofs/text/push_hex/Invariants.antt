use Rattle.std.proofs.Common.{◌≡◌, ◌*◌, ◌++◌, drop}
use Rattle.hex.specs.Hex.{encode_lower}
use Rattle.sercos_show.proofs.text.push_hex.Given as goal

abbrev pub invariant-loop-turn : goal.invariant-loop-turn
invariant-loop-turn l = l.out.items ++ encode_lower (drop (32 * l.turn) l.bytes) ≡ l.fn.out.items ++ encode_lower l.bytes
