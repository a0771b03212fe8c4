use Rattle.sercos_script.proofs.ScriptLemmas.{restarts-found}
use Rattle.sercos_script.proofs.gathered.Gathered.on_station.Goals as goal

pub returns : goal.returns
returns c = rw (c.in_lane.ensures, c.restart_lane.ensures.value) (restarts-found c.args.script.now c.args.self.now c.args.station c.requires.gathered)
