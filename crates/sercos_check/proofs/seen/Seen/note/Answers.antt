use Rattle.std.proofs.Common.{rules, ◌<◌, subst}
use Rattle.sercos_check.specs.declared.drives.Found.{Found}
use Rattle.sercos_check.proofs.AtLemmas.{at_stands}
use Rattle.sercos_check.proofs.seen.Seen.note.Goals as goal

pub returns-in-At : goal.returns-in-At
returns-in-At c = λ before stands. rw c.note_at.ensures.view (at_stands c.args.self.now c.args.w.now before c.args.cycle c.args.sent.now (rw (← c.sent.view_is) c.in-At.is) (search rules) (subst (λ (f : Found). f.wish.slave < 256) c.requires (search rules)) c.note_at.ensures.heard c.note_at.ensures.marks stands)
