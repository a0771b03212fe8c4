use Rattle.sercos_replay.specs.Cycles.{cycles_of}
use Rattle.sercos_replay.specs.Kept.{MasterStandsIn}
use Rattle.sercos_replay.proofs.MasterLemmas.{replay_of_master}
use Rattle.sercos_replay.proofs.SharedLemmas.{stands-goes, other-line}
use Rattle.sercos_replay.proofs.master_replay.MasterReplay.take_line.Goals as goal

pub returns-in-Telegram : goal.returns-in-Telegram
returns-in-Telegram c = rw c.in-Telegram.is (λ s jobs lines stands not. c.take.ensures s jobs (cycles_of lines) (stands-goes (replay_of_master c.args.self.now s jobs) (cycles_of lines) not stands) not)

pub returns-in_default : goal.returns-in_default
returns-in_default c = λ s jobs lines stands not. other-line (MasterStandsIn c.args.self.now s jobs) lines c.args.line.now c.in_default.not-Telegram stands
