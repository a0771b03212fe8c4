use Rattle.std.proofs.Common.{◌≡◌, ◌+◌, drop}
use Rattle.std.specs.Char.{is_ascii_hexdigit}
use Rattle.std.specs.List.{prefix_len}
use Rattle.sercos_show.proofs.digits.leading_digits.Given as goal

abbrev pub invariant-loop-place : goal.invariant-loop-place
invariant-loop-place l = l.place + prefix_len is_ascii_hexdigit (drop l.place l.text) ≡ prefix_len is_ascii_hexdigit l.text
