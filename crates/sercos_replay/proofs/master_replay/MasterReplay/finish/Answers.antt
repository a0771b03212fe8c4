use Rattle.sercos_replay.proofs.master_replay.MasterReplay.finish.Goals as goal

pub returns : goal.returns
returns c = record {
  after = c.end_all.ensures;
  differs = λ s jobs lines given. c.difference.ensures.differs s jobs lines (c.end_all.ensures.finished s jobs lines given);
}
