use Rattle.sercos_replay.proofs.DriveLemmas.{replay_of_drive}
use Rattle.sercos_replay.proofs.SharedLemmas.{told-again}
use Rattle.sercos_replay.proofs.drive_replay.DriveReplay.give.Goals as goal

pub returns : goal.returns
returns c = record { stands = λ d rate lines stands next. c.take_line.ensures d rate lines stands c.if-self.false next }

pub returns-then-self : goal.returns-then-self
returns-then-self c = record { stands = λ d rate lines stands next. told-again (replay_of_drive c.args.self.now d rate) lines c.args.line.now c.if-self.true stands }
