use Rattle.std.proofs.Common.{◌∙◌}
use Rattle.sercos_hdlc.proofs.TableLemmas.{sent_by_entry}
use Rattle.sercos_hdlc.proofs.stuffing.push_byte.Goals as goal

pub returns-clause-bits : goal.returns-clause-bits
returns-clause-bits c = sent_by_entry _ _ _ _ _ c.push_number.ensures.bits c.sent_for.ensures (c.from.ensures ∙ c.counts_of-counts.ensures.len)
