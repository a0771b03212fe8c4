use Rattle.sercos_replay.proofs.MasterLemmas.{replay_of_master}
use Rattle.sercos_replay.proofs.SharedLemmas.{told-before, ends-rests}
use Rattle.sercos_replay.proofs.master_replay.MasterReplay.take_mst.Goals as goal

pub returns-else-not-self : goal.returns-else-not-self
returns-else-not-self c = λ s jobs j goes not.
    told-before (replay_of_master c.close.new.self s jobs) c.args.cycle c.args.sent.now j c.if-not-self.false (c.close.ensures.ended s jobs j goes not)

pub returns-then-not-self : goal.returns-then-not-self
returns-then-not-self c = λ s jobs j goes not.
    c.begin.ensures s jobs j (ends-rests (replay_of_master c.close.new.self s jobs) j c.if-not-self.true (c.close.ensures.ended s jobs j goes not))
