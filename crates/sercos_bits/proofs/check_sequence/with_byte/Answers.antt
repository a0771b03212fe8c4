use Rattle.std.proofs.Common.{arith}
use Rattle.sercos_bits.proofs.TableLemmas.{byte_by_table}
use Rattle.sercos_bits.proofs.check_sequence.with_byte.Goals as goal

pub returns : goal.returns
returns c = byte_by_table c.args.register c.args.byte _ (omega arith) c.remainder_of.ensures
