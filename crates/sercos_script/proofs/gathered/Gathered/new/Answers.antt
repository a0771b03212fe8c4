use Rattle.sercos_script.proofs.StretchLemmas.{ahead-unknown}
use Rattle.sercos_script.proofs.gathered.Gathered.new.Goals as goal

pub gather-requires : goal.gather-requires
gather-requires c = ahead-unknown c.args.script.now c.args.cycle c.nothing_known.result c.nothing_known.ensures
