use Rattle.sercos_command.proofs.commands.Commands.take.Goals as goal

pub returns-then-value-eq-CANCEL-clause-view : goal.returns-then-value-eq-CANCEL-clause-view
returns-then-value-eq-CANCEL-clause-view c = rw c.if-value-eq-CANCEL.true (c.cancel.ensures c.args.store.now)
