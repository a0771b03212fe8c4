use Rattle.std.proofs.Common.{◌-◌, ◌+◌, arith}
use Rattle.std.specs.Char.{is_ascii_hexdigit}
use Rattle.std.proofs.lemmas.List.Sums.{prefix_len_passes}
use Rattle.sercos_show.proofs.line.digits_fault.Goals as goal

pub byte_of-requires-clause-high : goal.byte_of-requires-clause-high
byte_of-requires-clause-high c =
    prefix_len_passes is_ascii_hexdigit c.args.text.now (c.wanted_digits-wanted.result - 2) 0 (omega (arith, c.leading_digits-digits.ensures.value, c.if-digits-last.false))

pub byte_of-requires-2-clause-high : goal.byte_of-requires-2-clause-high
byte_of-requires-2-clause-high c =
    prefix_len_passes is_ascii_hexdigit c.args.text.now (c.wanted_digits-wanted.result - 2) 0 (omega (arith, c.leading_digits-digits.ensures.value, c.if-digits-last.false))

pub byte_of-requires-2-clause-low : goal.byte_of-requires-2-clause-low
byte_of-requires-2-clause-low c =
    prefix_len_passes is_ascii_hexdigit c.args.text.now (c.wanted_digits-wanted.result - 2 + 1) 0 (omega (arith, c.leading_digits-digits.ensures.value, c.if-digits-wanted.false, c.wanted_digits-wanted.ensures.some c.requires.some))
