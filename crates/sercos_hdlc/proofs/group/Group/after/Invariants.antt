use Rattle.std.proofs.Common.{◌≡◌, ◌*◌, ◌≤◌, take}
use Rattle.sercos_model.specs.Bits.{bits_of}
use Rattle.sercos_hdlc.specs.Grouped.{IsGroup}
use Rattle.sercos_hdlc.proofs.group.Group.after.Given as goal

abbrev pub invariant-loop-byte : goal.invariant-loop-byte
invariant-loop-byte l = record {
  len : l.group.len ≡ l.byte-index;
  count : l.group.count ≤ 8 * l.byte-index;
  group : IsGroup l.ones l.dropped (bits_of (take l.byte-index l.bytes)) l.group;
}
