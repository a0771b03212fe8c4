use Rattle.sercos_replay.proofs.drive_replay.DriveReplay.finish.Goals as goal

pub returns : goal.returns
returns c = record {
  after = c.end_all.ensures;
  differs = λ d rate lines given. c.difference.ensures.differs d rate lines (c.end_all.ensures.finished d rate lines given);
}
