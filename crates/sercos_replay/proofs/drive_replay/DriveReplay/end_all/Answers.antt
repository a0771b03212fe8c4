use Rattle.sercos_replay.specs.Cycles.{cycles_of}
use Rattle.sercos_replay.proofs.DriveLemmas.{replay_of_drive}
use Rattle.sercos_replay.proofs.SharedLemmas.{finished, finished-before}
use Rattle.sercos_replay.proofs.drive_replay.DriveReplay.end_all.Goals as goal

pub returns : goal.returns
returns c = record {
  finished = λ d rate lines given.
      finished (replay_of_drive c.args.self.now d rate) (replay_of_drive c.close.new.self d rate) (cycles_of lines) c.if-self.false (c.close.ensures.ended d rate (cycles_of lines)) (c.close.ensures.rests d rate (cycles_of lines)) given;
}

pub returns-then-self : goal.returns-then-self
returns-then-self c = record { finished = λ d rate lines given. finished-before (replay_of_drive c.args.self.now d rate) (cycles_of lines) c.if-self.true given }
