use Rattle.std.proofs.Common.{◌≡◌, ◌+◌, ◌-◌, ◌*◌, ◌≤◌, ◌++◌, Bool, List, length, take}
use Rattle.sercos_model.specs.Bits.{bits_of}
use Rattle.sercos_hdlc.specs.Fed.{taken_of, IsFed}
use Rattle.sercos_hdlc.proofs.deframer.Deframer.feed_bytes.Given as goal

abbrev pub invariant-loop-place : goal.invariant-loop-place
invariant-loop-place l = record {
  within : l.place ≤ length l.bytes;
  taken : taken_of l.self ≡ taken_of l.fn.self + 8 * l.place;
  fed : (bits : List Bool) → IsFed bits l.fn.self → IsFed (bits ++ bits_of (take l.place l.bytes)) l.self;
}

abbrev pub decreases-loop-place : goal.decreases-loop-place
decreases-loop-place l = length l.bytes - l.place
