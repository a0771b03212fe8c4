use Rattle.sercos_replay.proofs.DriveLemmas.{replay_of_drive}
use Rattle.sercos_replay.proofs.SharedLemmas.{told-before, ends-rests}
use Rattle.sercos_replay.proofs.drive_replay.DriveReplay.take_mst.Goals as goal

pub returns-else-not-self : goal.returns-else-not-self
returns-else-not-self c = λ d rate j goes not next.
    told-before (replay_of_drive c.close.new.self d rate) c.args.cycle c.args.sent.now j c.if-not-self.false (c.close.ensures.ended d rate j goes not)

pub returns-then-not-self : goal.returns-then-not-self
returns-then-not-self c = λ d rate j goes not next.
    c.begin.ensures d rate j (ends-rests (replay_of_drive c.close.new.self d rate) j c.if-not-self.true (c.close.ensures.ended d rate j goes not)) c.if-not-self.true next
