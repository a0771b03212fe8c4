use Rattle.std.proofs.Common.{◌∷◌}
use Rattle.sercos_replay.proofs.drive_replay.DriveReplay.line.Goals as goal

pub returns : goal.returns
returns c = record {
  after = c.give.ensures;
  tells = λ d rate lines stands next. c.difference.ensures.tells d rate (c.args.line.now ∷ lines) (c.give.ensures.stands d rate lines stands next);
}
