use Rattle.sercos_app.proofs.OwnRuns.{own_runs}
use Rattle.sercos_app.proofs.replay.replay_law.Goals as goal

pub returns : goal.returns
returns c = own_runs c.run_law.ensures.made c.run_law.ensures.count c.asking_law.ensures c.undisturbed_law.ensures.traces c.clean_law.ensures.fit c.clean_law.ensures.clean
