use Rattle.std.proofs.Common.{[], ◌∷◌, ◌++◌}
use Rattle.sercos_bits.proofs.PackedLemmas.{one_bit}
use Rattle.sercos_hdlc.proofs.deframer.Deframer.take_plain.Goals as goal

pub returns-clause-fed : goal.returns-clause-fed
returns-clause-fed c = λ bits h. record {
  plain = h.plain ++ c.args.bit ∷ [];
  scan = c.take_plain.ensures.scan bits h.plain h.scan;
  kept = rw (c.from.ensures, one_bit) at (c.push.ensures h.plain h.kept);
}
