use Rattle.std.proofs.Common.{◌%◌, ◌<◌, arith}
use Rattle.std.specs.Int.Bits.{bit_xor}
use Rattle.std.proofs.lemmas.Nat.{xor_lt}
use Rattle.sercos_bits.proofs.TableLemmas.{two_by_table}
use Rattle.sercos_bits.proofs.check_sequence.with_two.Goals as goal

pub returns : goal.returns
returns c =
    let below : bit_xor (c.args.register % 256) c.args.first < 256 = xor_lt 8 (c.args.register % 256) c.args.first (omega arith) (omega arith) in
    two_by_table c.args.register c.args.first c.args.second _ _ (omega arith) below c.remainder_of.ensures c.later_of.ensures
