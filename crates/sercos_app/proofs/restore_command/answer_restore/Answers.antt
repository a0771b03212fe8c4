use Rattle.sercos_app.specs.Saving.{ring_restored, restore_answer}
use Rattle.sercos_app.proofs.SavingLemmas.{by_replies, by_refuses}
use Rattle.sercos_app.proofs.SavedRuns.{is_restored}
use Rattle.sercos_app.proofs.restore_command.answer_restore.Goals as goal

pub returns-in-Ok : goal.returns-in-Ok
unfolding restore_answer
returns-in-Ok g c = by_replies ring_restored _ _ c.args.bytes.now c.in-Ok.document _ _ _ c.in-Ok.ensures.value (is_restored c.kept_law.ensures.kept c.write_law.ensures c.in-Ok.document _ c.in-Ok.ensures.jobs (c.kept_law.ensures.opened c.in-Ok.document.setup c.in-Ok.document.jobs c.in-Ok.ensures.setup c.in-Ok.ensures.jobs c.in-Ok.ensures.typed.0 c.in-Ok.ensures.typed.1)) c.restore_document.ensures

pub returns-in-Err : goal.returns-in-Err
unfolding restore_answer
returns-in-Err g c = by_refuses ring_restored _ c.args.bytes.now c.in-Err.bad _ _ _ c.in-Err.ensures.value c.refuse.ensures
