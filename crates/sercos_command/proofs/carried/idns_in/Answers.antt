use Rattle.sercos_command.proofs.CheckLemmas.{idns_in-end}
use Rattle.sercos_command.proofs.carried.idns_in.Goals as goal

pub returns : goal.returns
returns c = idns_in-end c.args.bytes.now c.loop-place.place c.loop-place-test.false c.loop-place.invariant.whole
