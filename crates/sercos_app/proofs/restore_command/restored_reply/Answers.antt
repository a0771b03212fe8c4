use Rattle.std.proofs.Common.{◌∙◌}
use Rattle.sercos_app.proofs.SavingLemmas.{restored_status, restored_text}
use Rattle.sercos_app.proofs.restore_command.restored_reply.Goals as goal

pub returns : goal.returns
returns g c =
    let carry = g.L.BitLink.carry c.args.link in
    let restarts = g.L.BitLink.restart c.args.link in
    let r = c.args.setup.now in record {
      status = restored_status r c.args.jobs.items carry restarts c.as_slice-2.result.now c.restored_status.result c.restored_status.ensures (c.as_slice-2.ensures.value ∙ c.in_ok-list.ensures.list);
      text = restored_text r c.args.jobs.items carry restarts c.as_slice.result.now c.new-text.result.items c.push_lines.new.out.items (c.in_ok-push_lines.ensures c.args.jobs.items carry restarts _ c.in_ok-list.ensures.ring) c.new-text.ensures.items
          (c.as_slice.ensures.value ∙ c.in_ok-list.ensures.list);
    }
