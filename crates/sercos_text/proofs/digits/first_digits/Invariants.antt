use Rattle.std.proofs.Common.{◌≡◌, ◌+◌, drop}
use Rattle.std.specs.List.{prefix_len}
use Rattle.sercos_text.specs.Fields.{is_hex}
use Rattle.sercos_text.proofs.digits.first_digits.Given as goal

abbrev pub invariant-loop-place : goal.invariant-loop-place
invariant-loop-place l = l.place + prefix_len is_hex (drop l.place l.text) ≡ prefix_len is_hex l.text
