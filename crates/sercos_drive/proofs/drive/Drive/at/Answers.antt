use Rattle.std.proofs.Common.{rules}
use Rattle.sercos_drive.specs.Moments.{records_in, commands_in}
use Rattle.sercos_drive.specs.Annals.{annals}
use Rattle.sercos_drive.proofs.drive.Drive.at.Goals as goal

pub returns-clause-said : goal.returns-clause-said
returns-clause-said c = λ d rate h k.
    let s = rw (← c.self.view_is) at k in
    let shown = c.say-info.ensures.shown d.busy (records_in (annals d rate h)) (commands_in d rate (annals d rate h)) s.channel_is s.commands_are in
    search rules
