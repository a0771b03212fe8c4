use Rattle.sercos_app.proofs.RunLemmas.{run_replies, run_refuses}
use Rattle.sercos_app.proofs.run_command.answer_run.Goals as goal

pub returns-in-Ok : goal.returns-in-Ok
returns-in-Ok g c = run_replies c.kept_law.ensures.kept c.clean_law.ensures.clean _ _ c.args.bytes.now c.in-Ok.document _ _ _ c.in-Ok.ensures.value (c.kept_law.ensures.opened c.in-Ok.document.setup c.in-Ok.document.jobs c.in-Ok.ensures.setup c.in-Ok.ensures.jobs c.in-Ok.ensures.typed.0 c.in-Ok.ensures.typed.1) c.in-Ok.ensures.jobs.few c.run_document.ensures

pub returns-in-Err : goal.returns-in-Err
returns-in-Err g c = run_refuses _ _ c.args.bytes.now c.in-Err.bad _ _ _ c.in-Err.ensures.value c.refuse.ensures
