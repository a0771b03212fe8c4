use Rattle.std.proofs.Common.{refl}
use Rattle.sercos_call.specs.Outcome.Replies.{none_found}
use Rattle.sercos_app.proofs.RunLemmas.{gen_replies}
use Rattle.sercos_app.proofs.gen_command.answer_gen.Goals as goal

pub returns-in-Ok : goal.returns-in-Ok
returns-in-Ok g c = gen_replies c.kept_law.ensures.kept _ _ c.args.n c.in-Ok.document _ _ _ c.in-Ok.ensures.value (c.kept_law.ensures.opened c.in-Ok.document.setup c.in-Ok.document.jobs c.in-Ok.ensures.setup c.in-Ok.ensures.jobs c.in-Ok.ensures.typed.0 c.in-Ok.ensures.typed.1) c.sum_document.ensures

pub returns-in-Err : goal.returns-in-Err
returns-in-Err g c = none_found refl
