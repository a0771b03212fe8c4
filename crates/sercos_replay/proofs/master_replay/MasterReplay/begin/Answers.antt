use Rattle.std.proofs.Common.{Some, true, refl}
use Rattle.std.specs.Box.{with_value}
use Rattle.sercos_replay.specs.Differences.{master_calls}
use Rattle.sercos_replay.proofs.MasterLemmas.{began, is_there, not_there}
use Rattle.sercos_replay.proofs.master_replay.MasterReplay.begin.Goals as goal

pub returns-in-Some : goal.returns-in-Some
returns-in-Some c = λ s jobs j r.
    let there = is_there c.args.self.now.master c.in-Some.master s jobs (master_calls j) c.in-Some.is r.stands in
    began c.args.self.now
    (record c.args.self.now { master = Some c.begin_cycle-self.new.master; cycle = c.args.cycle; is_open = true; differs = c.begin_cycle-self.result; told = with_value c.args.self.now.told c.begin_cycle-self.new.told; said = with_value c.args.self.now.said c.begin_cycle-self.new.said })
    s jobs c.args.cycle c.args.sent.now j r refl refl refl
    (c.begin_cycle-self.ensures.place s jobs (master_calls j) there) (c.begin_cycle-self.ensures.stands s jobs (master_calls j) there)

pub returns-in_default : goal.returns-in_default
returns-in_default c = λ s jobs j r. absurd (not_there c.args.self.now.master s jobs (master_calls j) c.in_default.is r.stands)
