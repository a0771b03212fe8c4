use Rattle.std.proofs.Common.{◌≡◌, ◌+◌, ◌-◌}
use Rattle.sercos_model.specs.Bits.{low_bits}
use Rattle.sercos_hdlc.specs.Fed.{taken_of}
use Rattle.sercos_hdlc.proofs.FedLemmas.{IsTaking}
use Rattle.sercos_hdlc.proofs.deframer.Deframer.take_bits_of.Given as goal

abbrev pub invariant-loop-place : goal.invariant-loop-place
invariant-loop-place l = record {
  taken : taken_of l.self ≡ taken_of l.fn.self + l._place;
  taking : IsTaking l.fn.self l.self (low_bits l.len l.byte) (low_bits (l.len - l._place) l.rest);
}
