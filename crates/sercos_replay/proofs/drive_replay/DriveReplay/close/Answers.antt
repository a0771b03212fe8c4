use Rattle.std.proofs.Common.{None, refl, sym, ◌∙◌}
use Rattle.std.proofs.lemmas.Bool.{false≢true}
use Rattle.sercos_replay.specs.Kept.{DriveEndsIn}
use Rattle.sercos_replay.proofs.DriveLemmas.{replay_of_drive}
use Rattle.sercos_replay.proofs.SharedLemmas.{with_open, closed-ends, rests-ends, ended-without}
use Rattle.sercos_replay.proofs.drive_replay.DriveReplay.close.Goals as goal

pub returns-then-self-clause-ended : goal.returns-then-self-clause-ended
returns-then-self-clause-ended c = λ d rate j goes not.
    with_open (replay_of_drive c.args.self.now d rate) j (DriveEndsIn c.end.new.self d rate)
    (λ t before a. ended-without (replay_of_drive c.end.new.self d rate) t before a.mdt_is (c.end.ensures d rate t before None a not refl))
    c.if-self.true goes

pub returns-then-self-clause-rests : goal.returns-then-self-clause-rests
returns-then-self-clause-rests c = λ d rate j r not. absurd (false≢true (sym r.open_is ∙ c.if-self.true))

pub returns-else-self : goal.returns-else-self
returns-else-self c = record {
  ended = λ d rate j goes not. closed-ends (replay_of_drive c.args.self.now d rate) j not c.if-self.false goes;
  rests = λ d rate j r not. rests-ends (replay_of_drive c.args.self.now d rate) j not r;
}
