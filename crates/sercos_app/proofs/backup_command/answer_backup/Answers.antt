use Rattle.sercos_app.specs.Saving.{ring_saved, backup_answer}
use Rattle.sercos_app.proofs.SavingLemmas.{by_replies, by_refuses}
use Rattle.sercos_app.proofs.SavedRuns.{is_saved}
use Rattle.sercos_app.proofs.backup_command.answer_backup.Goals as goal

pub returns-in-Ok : goal.returns-in-Ok
unfolding backup_answer
returns-in-Ok g c = by_replies ring_saved _ _ c.args.bytes.now c.in-Ok.document _ _ _ c.in-Ok.ensures.value (is_saved c.kept_law.ensures.kept c.told_law.ensures.reads c.in-Ok.document (c.kept_law.ensures.opened c.in-Ok.document.setup c.in-Ok.document.jobs c.in-Ok.ensures.setup c.in-Ok.ensures.jobs c.in-Ok.ensures.typed.0 c.in-Ok.ensures.typed.1)) c.back_up.ensures

pub returns-in-Err : goal.returns-in-Err
unfolding backup_answer
returns-in-Err g c = by_refuses ring_saved _ c.args.bytes.now c.in-Err.bad _ _ _ c.in-Err.ensures.value c.refuse.ensures
