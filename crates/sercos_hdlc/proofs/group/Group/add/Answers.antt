use Rattle.std.proofs.Common.{refl}
use Rattle.sercos_hdlc.proofs.GroupLemmas.{IsGroup-more}
use Rattle.sercos_hdlc.proofs.group.Group.add.Goals as goal

pub returns-clause-group : goal.returns-clause-group
returns-clause-group c = λ k before bits h.
    IsGroup-more k before bits _ c.args.self.now _ c.args.given h c.requires.given (rw (← c.from.ensures) c.joined-self.ensures.bits) refl refl (c.ending-self.ensures.value c.args.self.now.ones c.args.self.now.few c.requires.given.no_six)
