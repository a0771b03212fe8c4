use Rattle.sercos_backup.specs.Texts.{other_answer}
use Rattle.sercos_app.proofs.SavingLemmas.{is_reply, other_place}
use Rattle.sercos_app.proofs.restore_command.restore_reply.Goals as goal

pub returns-in-Some : goal.returns-in-Some
returns-in-Some g c = is_reply c.other_reply.result (other_answer c.in-Some.place) _ (other_place c.args.setup.now c.as_slice.result.now c.args.jobs.items _ _ c.in-Some.place c.as_slice.ensures.value c.in-Some.ensures.value) c.other_reply.ensures.status c.other_reply.ensures.text
