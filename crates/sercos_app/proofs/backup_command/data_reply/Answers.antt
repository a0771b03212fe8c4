use Rattle.std.proofs.Common.{◌≡◌, ap, ◌∙◌, rules}
use Rattle.sercos_backup.specs.declared.jobs.DataJobs.TheVariants.{TooMany}
use Rattle.sercos_backup.specs.Jobs.{data_jobs}
use Rattle.sercos_backup.specs.Texts.{saved_answer, many_answer}
use Rattle.sercos_app.specs.Saving.{data_answer}
use Rattle.sercos_app.proofs.SavingLemmas.{is_reply, data_few, data_many, if_ok, typed_few, typed_many, many_of}
use Rattle.sercos_app.proofs.backup_command.data_reply.Goals as goal

pub returns-in-Ok : goal.returns-in-Ok
returns-in-Ok g c =
    let carry = g.L.BitLink.carry c.args.link in
    let restarts = g.L.BitLink.restart c.args.link in record {
      reply = is_reply c.saved_reply.result (saved_answer c.as_slice.result.now) _
          (ap saved_answer (c.as_slice.ensures.value ∙ c.in_ok-run-in-Ok.ensures.list) ∙ data_few c.args.setup.now carry restarts c.in-Ok.jobs.items c.in-Ok.ensures.value.1
          ∙ ap (data_answer c.args.setup.now carry restarts) c.in-Ok.ensures.value.0)
          c.saved_reply.ensures.status c.saved_reply.ensures.text;
      typed = if_ok c.saved_reply.result (typed_few c.in-Ok.jobs.items _ c.in-Ok.ensures.value.0 c.in-Ok.ensures.typed);
    }

pub returns-in-Err-TooMany : goal.returns-in-Err-TooMany
returns-in-Err-TooMany g c =
    let carry = g.L.BitLink.carry c.args.link in
    let restarts = g.L.BitLink.restart c.args.link in
    let is : c.in-Err-TooMany.field-0 ≡ TooMany c.in-Err-TooMany.count = search rules in
    let many = many_of (data_jobs c.args.lists.now) c.in-Err-TooMany.field-0 c.in-Err-TooMany.count is c.in-Err-TooMany.ensures.value in record {
      reply = is_reply c.many_reply.result (many_answer c.in-Err-TooMany.count) _ (data_many c.args.setup.now carry restarts _ c.in-Err-TooMany.count many.0 many.1)
          c.many_reply.ensures.status c.many_reply.ensures.text;
      typed = if_ok c.many_reply.result (typed_many _ many.1);
    }
