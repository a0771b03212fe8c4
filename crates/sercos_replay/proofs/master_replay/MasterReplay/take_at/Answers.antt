use Rattle.std.proofs.Common.{◌∙◌}
use Rattle.sercos_replay.proofs.MasterLemmas.{replay_of_master}
use Rattle.sercos_replay.proofs.SharedLemmas.{with_ats, awaits-stands, at-left, at-taken}
use Rattle.sercos_replay.proofs.master_replay.MasterReplay.take_at.Goals as goal

pub returns-then-self : goal.returns-then-self
returns-then-self c = λ s jobs j goes not.
    at-taken (replay_of_master c.args.self.now s jobs) (replay_of_master c.hear_at.new.self s jobs) j c.args.sent.now c.if-self.true
    (λ t before a. awaits-stands (replay_of_master c.hear_at.new.self s jobs) (with_ats t c.args.sent.now) before (c.hear_at.ensures.differs ∙ not) (c.hear_at.ensures.stands s jobs t before a)) goes

pub returns-else-self : goal.returns-else-self
returns-else-self c = λ s jobs j goes not. at-left (replay_of_master c.args.self.now s jobs) j c.args.sent.now not c.if-self.false goes
