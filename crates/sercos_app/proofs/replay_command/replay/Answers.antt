use Rattle.std.proofs.Common.{sym}
use Rattle.sercos_app.proofs.OwnRuns.{parts_open}
use Rattle.sercos_app.proofs.replay_command.replay.Goals as goal

pub returns-in-Some-clause-opens : goal.returns-in-Some-clause-opens
returns-in-Some-clause-opens c = parts_open c.reply_parts.result c.args.bytes.now c.document_part.result.now c.in-Some.place (sym c.in-Some.ensures.value) c.document_part.ensures c.reply_parts.ensures.opens
