use Rattle.std.proofs.Common.{◌%◌, ◌/◌, ◌<◌, arith}
use Rattle.std.specs.Int.Bits.{bit_xor}
use Rattle.std.proofs.lemmas.Nat.{xor_lt}
use Rattle.sercos_bits.proofs.TableLemmas.{four_by_table, later_by_two_entry, later_by_three_entry}
use Rattle.sercos_bits.proofs.check_sequence.with_four.Goals as goal

pub returns : goal.returns
returns c =
    let first : bit_xor (c.args.register % 256) c.args.first < 256 = xor_lt 8 (c.args.register % 256) c.args.first (omega arith) (omega arith) in
    let second : bit_xor (c.args.register / 256) c.args.second < 256 = xor_lt 8 (c.args.register / 256) c.args.second (omega arith) (omega arith) in
    rw (c.from.ensures, c.from-2.ensures) (four_by_table c.args.register c.args.first c.args.second c.args.third c.args.fourth _ _ _ _ (omega arith) first second (omega arith) c.remainder_of.ensures c.later_of.ensures (later_by_two_entry _ second) (later_by_three_entry _ first))
