use Rattle.std.proofs.Common.{sym, ◌∙◌}
use Rattle.std.proofs.lemmas.Bool.{false≢true}
use Rattle.sercos_replay.specs.Kept.{MasterEndsIn}
use Rattle.sercos_replay.proofs.MasterLemmas.{replay_of_master}
use Rattle.sercos_replay.proofs.SharedLemmas.{with_open, closed-ends, rests-ends, ended-without}
use Rattle.sercos_replay.proofs.master_replay.MasterReplay.close.Goals as goal

pub returns-then-self-clause-ended : goal.returns-then-self-clause-ended
returns-then-self-clause-ended c = λ s jobs j goes not.
    with_open (replay_of_master c.args.self.now s jobs) j (MasterEndsIn c.end.new.self s jobs)
    (λ t before a. ended-without (replay_of_master c.end.new.self s jobs) t before a.mdt_is (c.end.ensures s jobs t before a))
    c.if-self.true goes

pub returns-then-self-clause-rests : goal.returns-then-self-clause-rests
returns-then-self-clause-rests c = λ s jobs j r not. absurd (false≢true (sym r.open_is ∙ c.if-self.true))

pub returns-else-self : goal.returns-else-self
returns-else-self c = record {
  ended = λ s jobs j goes not. closed-ends (replay_of_master c.args.self.now s jobs) j not c.if-self.false goes;
  rests = λ s jobs j r not. rests-ends (replay_of_master c.args.self.now s jobs) j not r;
}
