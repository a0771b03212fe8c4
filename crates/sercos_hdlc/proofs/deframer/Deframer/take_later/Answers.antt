use Rattle.sercos_hdlc.proofs.deframer.Deframer.take_later.Goals as goal

pub returns-clause-fed : goal.returns-clause-fed
returns-clause-fed c = λ bits others long h. record {
  plain = h.plain;
  scan = c.take_later.ensures.scan bits h.plain others long h.scan;
  kept = h.kept;
}
