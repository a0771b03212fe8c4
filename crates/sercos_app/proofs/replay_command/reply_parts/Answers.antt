use Rattle.sercos_app.proofs.OwnRuns.{opens_read}
use Rattle.sercos_app.proofs.replay_command.reply_parts.Goals as goal

pub returns-in-Ok-clause-opens : goal.returns-in-Ok-clause-opens
returns-in-Ok-clause-opens c = opens_read c.kept_law.ensures.opened c.args.document.now c.in_ok-document.document c.in_ok-document.ensures.value
    c.in_ok-document.ensures.setup c.in_ok-document.ensures.jobs c.in_ok-document.ensures.typed
