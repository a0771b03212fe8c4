use Rattle.sercos_replay.proofs.MasterLemmas.{replay_of_master}
use Rattle.sercos_replay.proofs.SharedLemmas.{mdt-taken, mdt-left}
use Rattle.sercos_replay.proofs.master_replay.MasterReplay.take_mdt.Goals as goal

pub returns-then-not-self : goal.returns-then-not-self
returns-then-not-self c = λ s jobs j goes not. mdt-left (replay_of_master c.args.self.now s jobs) j c.args.sent.now not c.if-not-self.true goes

pub returns : goal.returns
returns c = λ s jobs j goes not.
    mdt-taken (replay_of_master c.args.self.now s jobs) (replay_of_master c.end.new.self s jobs) j c.args.sent.now c.if-not-self.false
    (λ t before a. c.end.ensures s jobs t before a)
    goes
