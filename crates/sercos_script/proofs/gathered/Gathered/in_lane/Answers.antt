use Rattle.sercos_script.proofs.ScriptLemmas.{candidates-sorted}
use Rattle.sercos_script.proofs.gathered.Gathered.in_lane.Goals as goal

pub in_lane-requires : goal.in_lane-requires
in_lane-requires c = rw c.candidates.ensures (candidates-sorted c.args.script.now c.args.self.now c.requires.gathered c.requires.sorted)
