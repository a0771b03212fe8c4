use Rattle.sercos_script.proofs.ScriptLemmas.{carried-sorted, restarts-sorted}
use Rattle.sercos_script.proofs.script.Scripted.new.Goals as goal

pub returns-clause-carry : goal.returns-clause-carry
returns-clause-carry c = carried-sorted c.args.stations c.args.faults.items c.sorted-faults.result.items c.sorted-faults.ensures.same

pub returns-clause-restart : goal.returns-clause-restart
returns-clause-restart c = restarts-sorted c.args.faults.items c.sorted-faults.result.items c.sorted-faults.ensures.same
