use Rattle.std.proofs.Common.{◌≡◌, true, false, ap, ◌∙◌, rules}
use Rattle.sercos_script.specs.Links.{Carry, Restarts}
use Rattle.sercos_backup.specs.Jobs.{list_jobs, data_jobs}
use Rattle.sercos_backup.specs.Tracking.{lists_told}
use Rattle.sercos_backup.specs.Texts.{failed_answer}
use Rattle.sercos_app.specs.Saving.{run_tracked, data_answer}
use Rattle.sercos_app.proofs.SavingLemmas.{is_reply, same_reply, lists_well, list_failed, list_well, few_lists, if_ok, typed_failed, typed_second, IfOk-of}
use Rattle.sercos_app.proofs.backup_command.backup_reply.Goals as goal

pub returns-then-not-all_well : goal.returns-then-not-all_well
returns-then-not-all_well g c =
    let carry = g.L.BitLink.carry c.args.link in
    let restarts = g.L.BitLink.restart c.args.link in
    let r = c.args.setup.now in
    let listed = c.in_ok-list.ensures.list ∙ ap (λ jobs. run_tracked r jobs carry restarts) c.in_ok-jobs.ensures.value in
    let failed : c.all_well.result ≡ false = search rules in record {
      reply = λ jobs. is_reply c.failed_reply.result (failed_answer true c.as_slice-then-not-all_well.result.now) _
          (list_failed r carry restarts c.as_slice-then-not-all_well.result.now c.as_slice.result.now (run_tracked r (list_jobs r) carry restarts) c.all_well.result (c.as_slice-then-not-all_well.ensures.value ∙ listed) (c.as_slice.ensures.value ∙ listed) c.all_well.ensures failed)
          c.failed_reply.ensures.status c.failed_reply.ensures.text;
      typed = if_ok c.failed_reply.result (typed_failed r carry restarts c.as_slice.result.now c.all_well.result (c.as_slice.ensures.value ∙ listed) c.all_well.ensures failed);
    }

pub data_reply-requires-clause-few : goal.data_reply-requires-clause-few
data_reply-requires-clause-few g c =
    few_lists c.args.setup.now c.as_slice-3.result.now c.in_ok-list.field-0.list.items c.in_ok-jobs.jobs.items _ (c.as_slice-3.ensures.value ∙ c.in_ok-lists.ensures ∙ ap lists_told c.as_slice-2.ensures.value) c.in_ok-list.ensures.list c.in_ok-jobs.ensures.value
    (c.ring_law.ensures c.args.setup.now c.requires).few

pub returns : goal.returns
returns g c =
    let carry = g.L.BitLink.carry c.args.link in
    let restarts = g.L.BitLink.restart c.args.link in
    let r = c.args.setup.now in
    let listed = c.in_ok-list.ensures.list ∙ ap (λ jobs. run_tracked r jobs carry restarts) c.in_ok-jobs.ensures.value in
    let lists_are = c.as_slice-3.ensures.value ∙ c.in_ok-lists.ensures ∙ ap lists_told (c.as_slice-2.ensures.value ∙ listed) in
    let back = c.into_link.ensures r c.in_ok-jobs.jobs.items carry restarts _ c.in_ok-list.ensures.ring in
    let passed : c.all_well.result ≡ true = search rules in record {
      reply = λ jobs. same_reply c.data_reply.result _ _
          (ap (λ (x : Carry). data_answer r x (g.L.BitLink.restart c.into_link.result) (data_jobs c.as_slice-3.result.now)) back.0
          ∙ ap (λ (x : Restarts). data_answer r carry x (data_jobs c.as_slice-3.result.now)) back.1
          ∙ ap (λ lists. data_answer r carry restarts (data_jobs lists)) lists_are
          ∙ lists_well r carry restarts (run_tracked r (list_jobs r) carry restarts) (list_well c.as_slice.result.now _ c.all_well.result (c.as_slice.ensures.value ∙ listed) c.all_well.ensures passed))
          c.data_reply.ensures.reply;
      typed = IfOk-of c.data_reply.result (typed_second r carry restarts c.as_slice-3.result.now lists_are) c.data_reply.ensures.typed;
    }
