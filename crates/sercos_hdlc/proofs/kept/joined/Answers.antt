use Rattle.sercos_hdlc.proofs.KeptLemmas.{joined_bits, joined_below, joined_fits}
use Rattle.sercos_hdlc.proofs.kept.joined.Goals as goal

pub returns-clause-bits : goal.returns-clause-bits
returns-clause-bits c = joined_bits c.args.rest c.args.rest_len c.args.bits c.args.count c.requires.below c.requires.few c.requires.bits

pub returns-clause-below : goal.returns-clause-below
returns-clause-below c = joined_below c.args.rest c.args.rest_len c.args.bits c.args.count c.requires.below c.requires.few c.requires.bits

pub overflow_add-result : goal.overflow_add-result
overflow_add-result c = joined_fits c.args.rest c.args.rest_len c.args.bits c.args.count c.requires.below c.requires.few c.requires.bits
