-- What was counted and what is sent for the bytes that are left make up what is sent for all bytes; and these bytes make the
-- register what all bytes make of the first one.
use Rattle.std.proofs.Common.{◌≡◌, ◌+◌, ◌*◌, ◌<◌, ◌≤◌, length, drop}
use Rattle.std.specs.Prelude.{fold}
use Rattle.sercos_model.specs.Bits.{bits_of}
use Rattle.sercos_bits.specs.Register.{fed}
use Rattle.sercos_hdlc.specs.Stuffed.{ones_behind, stuffed}
use Rattle.sercos_hdlc.proofs.stuffing.count_pairs.Given as goal

abbrev pub invariant-loop-place : goal.invariant-loop-place
invariant-loop-place l = record {
  len : l.len + length (stuffed l.run (bits_of (drop (2 * l.place) l.bytes))) ≡ l.initial.len + length (stuffed 0 (bits_of l.bytes));
  same_end : fold ones_behind l.run (bits_of (drop (2 * l.place) l.bytes)) ≡ fold ones_behind 0 (bits_of l.bytes);
  few : l.run < 5;
  room : l.len ≤ l.initial.len + 32 * l.place;
  same_register : fold fed l.register (bits_of (drop (2 * l.place) l.bytes)) ≡ fold fed l.initial.register (bits_of l.bytes);
}
