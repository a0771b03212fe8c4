use Rattle.std.proofs.Common.{rules}
use Rattle.sercos_law_run.proofs.Theorems.{unseen_few}
use Rattle.sercos_ring.proofs.counting.count_made.Goals as goal

pub count_cycle-requires-clause-unseen : goal.count_cycle-requires-clause-unseen
count_cycle-requires-clause-unseen c =
    let is = c.requires.made in
    unseen_few is.setup is.jobs is.carry is.restarts c.args.made.now is.before is.next (c.ring_law.ensures is.setup is.valid).few (search rules)
