use Rattle.std.proofs.Common.{ap, sym, ◌∙◌}
use Rattle.sercos_script.specs.Scripts.{carried}
use Rattle.sercos_app.specs.Saving.{ring_saved}
use Rattle.sercos_app.specs.Saved.{ReadsTyped}
use Rattle.sercos_app.proofs.SavingLemmas.{reply_replies, replies_over}
use Rattle.sercos_app.proofs.backup_command.back_up.Goals as goal

pub returns : goal.returns
returns g c =
    replies_over ring_saved (λ r jobs carry restarts. ReadsTyped r carry restarts) c.args.document c.document.inside.setup c.document.inside.jobs.items c.document.inside.faults.items _ _ _ _ _
    (sym c.document.view_is)
    (c.new-script.ensures.carry ∙ ap (λ n. carried n c.document.inside.faults.items) c.drives_of.ensures)
    c.new-script.ensures.restart
    (reply_replies c.backup_reply.result _ _ _ _ _ (c.backup_reply.ensures.reply c.document.inside.jobs.items) c.backup_reply.ensures.typed c.give_if_made.ensures)
