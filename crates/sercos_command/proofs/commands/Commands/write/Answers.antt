use Rattle.std.proofs.Common.{◌∙◌}
use Rattle.sercos_command.proofs.CallLemmas.{stands_written, lists_stand, commands_written}
use Rattle.sercos_command.proofs.commands.Commands.write.Goals as goal

pub returns-clause-stands : goal.returns-clause-stands
returns-clause-stands c = stands_written c.args.idn.raw c.args.value c.args.cycle c.args.store.now c.take.ensures.view

pub returns-clause-blocks : goal.returns-clause-blocks
returns-clause-blocks c h stands = c.take.ensures.blocks ∙ lists_stand c.args.self.now h c.args.idn.raw c.args.value c.args.store.now stands

pub returns-clause-set : goal.returns-clause-set
returns-clause-set c =
    commands_written c.args.self.now c.args.store.now c.args.idn.raw c.args.value c.args.cycle c.take.ensures.view c.take.ensures.blocks c.requires.command c.requires.set
