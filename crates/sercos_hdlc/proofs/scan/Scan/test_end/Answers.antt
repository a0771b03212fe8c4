use Rattle.sercos_hdlc.proofs.ClosingLemmas.{after_some, after_none}
use Rattle.sercos_hdlc.proofs.scan.Scan.test_end.Goals as goal

pub returns-then-end-self : goal.returns-then-end-self
returns-then-end-self c = λ bits plain len h e. after_some bits c.args.self.now.closing c.args.self.now.taken e.place h.taken_all c.if-end-self.true

pub returns : goal.returns
returns c = λ bits plain len h e. after_none bits c.args.self.now.closing c.args.self.now.taken e.place h.taken_all c.if-end-self.false
