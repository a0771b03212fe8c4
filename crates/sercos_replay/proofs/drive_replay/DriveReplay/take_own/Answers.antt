use Rattle.sercos_replay.proofs.DriveLemmas.{own-at}
use Rattle.sercos_replay.proofs.drive_replay.DriveReplay.take_own.Goals as goal

pub returns : goal.returns
returns c = λ d rate t j a not missing own.
    own-at c.args.self.now c.compare.new.self d rate t j c.args.sent.now a missing own c.compare.ensures.same (c.compare.ensures.place d)
