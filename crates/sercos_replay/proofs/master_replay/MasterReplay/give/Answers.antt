use Rattle.sercos_replay.proofs.MasterLemmas.{replay_of_master}
use Rattle.sercos_replay.proofs.SharedLemmas.{told-again}
use Rattle.sercos_replay.proofs.master_replay.MasterReplay.give.Goals as goal

pub returns : goal.returns
returns c = record { stands = λ s jobs lines stands. c.take_line.ensures s jobs lines stands c.if-self.false }

pub returns-then-self : goal.returns-then-self
returns-then-self c = record { stands = λ s jobs lines stands. told-again (replay_of_master c.args.self.now s jobs) lines c.args.line.now c.if-self.true stands }
