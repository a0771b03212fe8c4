-- the text so far has digits alone
use Rattle.std.proofs.Common.{◌≡◌, ◌+◌, ◌*◌, drop}
use Rattle.sercos_text.specs.Fields.{hex_digits}
use Rattle.sercos_text.proofs.digits.after_sixteens.Given as goal

abbrev pub invariant-loop-turn : goal.invariant-loop-turn
invariant-loop-turn l = hex_digits l.text ≡ 16 * l.turn + hex_digits (drop (16 * l.turn) l.text)
