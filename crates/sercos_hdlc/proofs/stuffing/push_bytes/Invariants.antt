-- What was appended and what is sent for the bytes that are left make up what is sent for all bytes.
use Rattle.std.proofs.Common.{◌≡◌, ◌+◌, ◌*◌, ◌<◌, ◌≤◌, ◌++◌, length, drop}
use Rattle.std.specs.Prelude.{fold}
use Rattle.sercos_model.specs.Bits.{bits_of}
use Rattle.sercos_hdlc.specs.Stuffed.{ones_behind, stuffed}
use Rattle.sercos_hdlc.proofs.stuffing.push_bytes.Given as goal

abbrev pub invariant-loop-byte : goal.invariant-loop-byte
invariant-loop-byte l = record {
  bits : l.out ++ stuffed l.run (bits_of (drop l.byte-index l.bytes)) ≡ l.initial.out ++ stuffed l.ones (bits_of l.bytes);
  same_end : fold ones_behind l.run (bits_of (drop l.byte-index l.bytes)) ≡ fold ones_behind l.ones (bits_of l.bytes);
  few : l.run < 5;
  room : 5 * length l.out + l.run ≤ 5 * length l.initial.out + l.ones + 48 * l.byte-index;
}
