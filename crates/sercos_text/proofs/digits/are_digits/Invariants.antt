-- the bytes so far and those that are left
use Rattle.std.proofs.Common.{◌≡◌, ◌&&◌, drop}
use Rattle.sercos_text.specs.Fields.{all_hex}
use Rattle.sercos_text.proofs.digits.are_digits.Given as goal

abbrev pub invariant-loop-byte : goal.invariant-loop-byte
invariant-loop-byte l = (l.all && all_hex (drop l.byte-index l.bytes)) ≡ all_hex l.bytes
