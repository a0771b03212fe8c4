use Rattle.std.proofs.Common.{◌∷◌}
use Rattle.sercos_replay.proofs.master_replay.MasterReplay.line.Goals as goal

pub returns : goal.returns
returns c = record {
  after = c.give.ensures;
  tells = λ s jobs lines stands. c.difference.ensures.tells s jobs (c.args.line.now ∷ lines) (c.give.ensures.stands s jobs lines stands);
}
