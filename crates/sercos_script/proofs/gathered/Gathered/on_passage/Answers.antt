use Rattle.std.proofs.Common.{sym, subst}
use Rattle.sercos_script.specs.Lanes.{AreByReach, candidates}
use Rattle.sercos_script.proofs.ScriptLemmas.{carried-found, candidates-sorted, lane-by_reach}
use Rattle.sercos_script.proofs.gathered.Gathered.on_passage.Goals as goal

pub returns-clause-same : goal.returns-clause-same
returns-clause-same c stations bits =
    rw (c.in_lane.ensures, c.telegram_lane.ensures.value) (carried-found stations c.args.script.now c.args.self.now c.args.p.now bits c.requires.gathered c.requires.cycle)

pub returns-clause-sorted : goal.returns-clause-sorted
returns-clause-sorted c =
    subst AreByReach (sym c.in_lane.ensures)
    (lane-by_reach c.telegram_lane.result (candidates c.args.script.now c.args.self.now) (candidates-sorted c.args.script.now c.args.self.now c.requires.gathered c.requires.sorted))
