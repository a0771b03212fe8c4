use Rattle.std.proofs.Common.{◌≡◌, ◌∙◌}
use Rattle.std.specs.Option.{option_copied}
use Rattle.sercos_drive.specs.Heard.{mdt_got}
use Rattle.sercos_drive.specs.Moments.{phase_in, blocks_in, records_in, commands_in}
use Rattle.sercos_drive.specs.Annals.{annals}
use Rattle.sercos_drive.specs.contracts.drive.Drive.{the_view}
use Rattle.sercos_drive.proofs.DriveLemmas.{keeps-mdt, told_is, those_at}
use Rattle.sercos_drive.proofs.drive.Drive.hear_mdt.Goals as goal

pub returns : goal.returns
returns c = λ d rate h k.
    let s = rw (← c.self.view_is) at k in
    let told : c.mdt_got-told.result ≡ mdt_got d.address (phase_in (annals d rate h)) (blocks_in d (annals d rate h)) (option_copied c.args.content) =
    c.mdt_got-told.ensures _ s.slot_is.value ∙ told_is (the_view c.self.inside) d rate (option_copied c.args.content) (annals d rate h) s in
    rw (← told) (keeps-mdt c.args.self.now c.process_if.new.self c.end.new.self d rate c.mdt_got-told.result (annals d rate h) k
    (c.process_if.ensures d.busy (records_in (annals d rate h)) (commands_in d rate (annals d rate h)) k.channel_is (rw k.blocks_is (those_at c.writes_law.ensures.alike d rate h))
    k.commands_are)
    c.takes-took.result c.takes-took.ensures c.end.ensures)
