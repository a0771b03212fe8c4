use Rattle.sercos_replay.specs.Cycles.{cycles_of}
use Rattle.sercos_replay.proofs.MasterLemmas.{replay_of_master}
use Rattle.sercos_replay.proofs.SharedLemmas.{finished, finished-before}
use Rattle.sercos_replay.proofs.master_replay.MasterReplay.end_all.Goals as goal

pub returns : goal.returns
returns c = record {
  finished = λ s jobs lines given.
      finished (replay_of_master c.args.self.now s jobs) (replay_of_master c.close.new.self s jobs) (cycles_of lines) c.if-self.false (c.close.ensures.ended s jobs (cycles_of lines)) (c.close.ensures.rests s jobs (cycles_of lines)) given;
}

pub returns-then-self : goal.returns-then-self
returns-then-self c = record { finished = λ s jobs lines given. finished-before (replay_of_master c.args.self.now s jobs) (cycles_of lines) c.if-self.true given }
