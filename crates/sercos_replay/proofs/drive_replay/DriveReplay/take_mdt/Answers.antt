use Rattle.std.proofs.Common.{Some, sym, ◌∙◌, ap}
use Rattle.sercos_replay.specs.Differences.{content_of}
use Rattle.sercos_replay.proofs.DriveLemmas.{replay_of_drive}
use Rattle.sercos_replay.proofs.SharedLemmas.{mdt-taken, mdt-left}
use Rattle.sercos_replay.proofs.drive_replay.DriveReplay.take_mdt.Goals as goal

pub returns-then-not-self : goal.returns-then-not-self
returns-then-not-self c = λ d rate j goes not. mdt-left (replay_of_drive c.args.self.now d rate) j c.args.sent.now not c.if-not-self.true goes

pub returns : goal.returns
returns c = λ d rate j goes not.
    mdt-taken (replay_of_drive c.args.self.now d rate) (replay_of_drive c.end.new.self d rate) j c.args.sent.now c.if-not-self.false
    (λ t before a. c.end.ensures d rate t before (Some c.args.sent.now) a not (ap Some (ap content_of (sym c.sent.view_is) ∙ sym c.as_slice.ensures.value)))
    goes
