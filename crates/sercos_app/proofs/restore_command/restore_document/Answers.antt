use Rattle.std.proofs.Common.{ap, sym, ◌∙◌}
use Rattle.sercos_script.specs.Scripts.{carried}
use Rattle.sercos_app.specs.Saving.{ring_restored}
use Rattle.sercos_app.proofs.SavingLemmas.{reply_replies, replies_over, if_unit}
use Rattle.sercos_app.proofs.restore_command.restore_document.Goals as goal

pub returns : goal.returns
returns g c =
    replies_over ring_restored (λ r jobs carry restarts. Unit {0}) c.args.document c.document.inside.setup c.document.inside.jobs.items c.document.inside.faults.items _ _ _ _ _
    (sym c.document.view_is)
    (c.new-script.ensures.carry ∙ ap (λ n. carried n c.document.inside.faults.items) c.drives_of.ensures)
    c.new-script.ensures.restart
    (reply_replies c.restore_reply.result _ _ _ _ _ c.restore_reply.ensures (if_unit c.restore_reply.result) c.give_if_made.ensures)
