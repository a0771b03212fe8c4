-- the text so far has digits alone
use Rattle.std.proofs.Common.{◌≡◌, ◌+◌, ◌*◌, drop}
use Rattle.sercos_text.specs.Fields.{hex_digits}
use Rattle.sercos_text.proofs.digits.after_eights.Given as goal

abbrev pub invariant-loop-turn : goal.invariant-loop-turn
invariant-loop-turn l = hex_digits l.text ≡ 8 * l.turn + hex_digits (drop (8 * l.turn) l.text)
