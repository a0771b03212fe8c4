use Rattle.std.proofs.Common.{false, true, sym, ◌∙◌}
use Rattle.sercos_service_drive.proofs.ChannelLemmas.{shows_none, shows_last, shown_is}
use Rattle.sercos_service_drive.proofs.channel.DriveChannel.say.Goals as goal

pub returns-in-None-clause-shown : goal.returns-in-None-clause-shown
returns-in-None-clause-shown c = λ busy h commands stood stands.
    let s = rw (← c.self.view_is) at stood in
    shown_is c.status.result 0 c.self.inside.ahs false false c.change-change.result c.status.ensures (rw (c.change-change.ensures.stands commands stands) (shows_none _ busy c.args.cycle commands h s c.in-None.is))

pub returns-then-is_busy-clause-shown : goal.returns-then-is_busy-clause-shown
returns-then-is_busy-clause-shown c = λ busy h commands stood stands.
    let s = rw (← c.self.view_is) at stood in
    shown_is c.status-then-is_busy.result 0 c.self.inside.ahs true false c.change-change.result c.status-then-is_busy.ensures
    (rw (c.change-change.ensures.stands commands stands) (shows_last _ busy c.args.cycle commands h s c.in-Some.last c.in-Some.is true (sym c.is_busy.ensures ∙ c.if-is_busy.true)))

pub returns-else-is_busy-clause-shown : goal.returns-else-is_busy-clause-shown
returns-else-is_busy-clause-shown c = λ busy h commands stood stands.
    let s = rw (← c.self.view_is) at stood in
    shown_is c.status-else-is_busy.result c.in-Some.last.answer.word c.self.inside.ahs false c.in-Some.last.answer.error c.change-change.result c.status-else-is_busy.ensures
    (rw (c.change-change.ensures.stands commands stands) (shows_last _ busy c.args.cycle commands h s c.in-Some.last c.in-Some.is false (sym c.is_busy.ensures ∙ c.if-is_busy.false)))
