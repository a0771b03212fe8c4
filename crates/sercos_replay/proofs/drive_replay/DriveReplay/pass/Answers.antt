use Rattle.sercos_replay.proofs.DriveLemmas.{passed-found, passed-missing}
use Rattle.sercos_replay.proofs.drive_replay.DriveReplay.pass.Goals as goal

pub returns-then-self : goal.returns-then-self
returns-then-self c = λ d rate t j a not. passed-found c.args.self.now d rate t j a not c.if-self.true

pub returns : goal.returns
returns c = λ d rate t j a not.
    passed-missing c.args.self.now c.compare.new.self d rate t j a c.if-self.false c.compare.ensures.same (c.compare.ensures.place d)
