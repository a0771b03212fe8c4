use Rattle.std.proofs.Common.{◌∙◌}
use Rattle.sercos_service_drive.proofs.WritingLemmas.{setting_is}
use Rattle.sercos_service_drive.proofs.writing.tell.Goals as goal

pub returns-then-command-clause-blocks : goal.returns-then-command-clause-blocks
returns-then-command-clause-blocks c = λ commands stood. let on = c.if-command.true in rw (on, ← (c.word_at.ensures ∙ setting_is c.args.bytes.now)) (c.write.ensures.blocks commands stood)

pub returns-then-command-clause-commands : goal.returns-then-command-clause-commands
returns-then-command-clause-commands c = λ commands stood. let on = c.if-command.true in rw (on, ← (c.word_at.ensures ∙ setting_is c.args.bytes.now)) (c.write.ensures.stands commands stood)
