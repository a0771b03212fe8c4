use Rattle.sercos_script.proofs.PathLemmas.{carried_is}
use Rattle.sercos_script.proofs.path.carry.Goals as goal

pub returns : goal.returns
returns c = rw (carried_is c.args.stations c.args.faults.now c.args.p.now c.args.bits.now, ← c.links_between.ensures) c.over_all.ensures
