use Rattle.sercos_replay.specs.Cycles.{cycles_of}
use Rattle.sercos_replay.specs.Kept.{DriveStandsIn}
use Rattle.sercos_replay.proofs.DriveLemmas.{replay_of_drive}
use Rattle.sercos_replay.proofs.SharedLemmas.{stands-goes, other-line}
use Rattle.sercos_replay.proofs.drive_replay.DriveReplay.take_line.Goals as goal

pub returns-in-Telegram : goal.returns-in-Telegram
returns-in-Telegram c = rw c.in-Telegram.is (λ d rate lines stands not next. c.take.ensures d rate (cycles_of lines) (stands-goes (replay_of_drive c.args.self.now d rate) (cycles_of lines) not stands) not next)

pub returns-in_default : goal.returns-in_default
returns-in_default c = λ d rate lines stands not next. other-line (DriveStandsIn c.args.self.now d rate) lines c.args.line.now c.in_default.not-Telegram stands
