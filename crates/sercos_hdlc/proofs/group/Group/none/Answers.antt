use Rattle.std.proofs.Common.{refl}
use Rattle.sercos_hdlc.proofs.GroupLemmas.{IsGroup-none}
use Rattle.sercos_hdlc.proofs.group.Group.none.Goals as goal

pub returns-clause-group : goal.returns-clause-group
returns-clause-group c = IsGroup-none c.args.ones c.args.dropped _ refl refl refl
