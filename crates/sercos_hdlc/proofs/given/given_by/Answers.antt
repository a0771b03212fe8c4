use Rattle.std.proofs.Common.{refl}
use Rattle.sercos_hdlc.proofs.GivenLemmas.{count_few, bits_below, given_in, end_in}
use Rattle.sercos_hdlc.proofs.given.given_by.Goals as goal

pub returns-clause-given : goal.returns-clause-given
returns-clause-given c = λ few. given_in c.entry_for-entry.result c.args.ones c.args.byte c.entry_for-entry.ensures _ refl refl refl refl few

pub returns-clause-few : goal.returns-clause-few
returns-clause-few c = count_few c.entry_for-entry.result c.args.ones c.args.byte c.entry_for-entry.ensures

pub returns-clause-below : goal.returns-clause-below
returns-clause-below c = bits_below c.entry_for-entry.result c.args.ones c.args.byte c.entry_for-entry.ensures

pub returns-clause-end : goal.returns-clause-end
returns-clause-end c = λ many. end_in c.entry_for-entry.result c.args.ones c.args.byte c.entry_for-entry.ensures _ c.requires refl refl refl refl many
